use Rattle.deliveries.proofs.Delivers.{deliveries}
use Rattle.answers.proofs.Applied.{refused-applies}
use Rattle.std.proofs.Common.{rules}
use Rattle.deliveries.proofs.deliver_change.Goals as goal

pub returns-clause-result_value : goal.returns-clause-result_value
returns-clause-result_value c = search (deliveries, refused-applies, rules)

pub returns-then-not-own-clause-result_value : goal.returns-then-not-own-clause-result_value
returns-then-not-own-clause-result_value c = search (deliveries, refused-applies, rules)
