use Rattle.advances.proofs.Advancing.{stays, step-taken}
use Rattle.answers.proofs.Applied.{refused-applies}
use Rattle.answers.proofs.Ways.{ready-stored}
use Rattle.std.proofs.Common.{rules}
use Rattle.advances.proofs.Open.perform.Goals as goal

pub returns-in-Stays-clause-result_value : goal.returns-in-Stays-clause-result_value
returns-in-Stays-clause-result_value c = search (stays, step-taken, refused-applies, ready-stored, rules)
