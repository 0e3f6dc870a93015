use Rattle.deliveries.proofs.Delivers.{oldests}
use Rattle.answers.proofs.Applied.{refused-applies}
use Rattle.std.proofs.Common.{rules}
use Rattle.deliveries.proofs.deliver_oldest.Goals as goal

pub receive-requires : goal.receive-requires
receive-requires c = search (oldests, refused-applies, rules)

pub returns-clause-result_value : goal.returns-clause-result_value
returns-clause-result_value c = search (oldests, refused-applies, rules)

pub returns-then-waiting-eq0-clause-result_value : goal.returns-then-waiting-eq0-clause-result_value
returns-then-waiting-eq0-clause-result_value c = search (oldests, refused-applies, rules)
