use Rattle.faults.proofs.Faulty.{recovers}
use Rattle.answers.proofs.Applied.{refused-applies}
use Rattle.std.proofs.Common.{rules}
use Rattle.faults.proofs.recover_change.Goals as goal

pub returns-then-own-clause-result_value : goal.returns-then-own-clause-result_value
returns-then-own-clause-result_value c = search (recovers, refused-applies, rules)

pub returns-clause-result_value : goal.returns-clause-result_value
returns-clause-result_value c = search (recovers, refused-applies, rules)
