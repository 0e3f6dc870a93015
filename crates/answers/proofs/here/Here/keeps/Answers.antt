use Rattle.answers.proofs.Applied.{refused-applies}
use Rattle.answers.proofs.Ways.{ready-stored}
use Rattle.std.proofs.Common.{rules}
use Rattle.answers.proofs.here.Here.keeps.Goals as goal

pub returns-clause-result_value : goal.returns-clause-result_value
returns-clause-result_value c = search (refused-applies, ready-stored, rules)
