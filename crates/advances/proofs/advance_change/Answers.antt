use Rattle.advances.proofs.Advances.{advances}
use Rattle.answers.proofs.Applied.{refused-applies}
use Rattle.answers.proofs.Ways.{ready-stored}
use Rattle.std.proofs.Common.{rules}
use Rattle.advances.proofs.advance_change.Goals as goal

pub returns-then-not-own-clause-result_value : goal.returns-then-not-own-clause-result_value
returns-then-not-own-clause-result_value c = search (advances, refused-applies, ready-stored, rules)

pub returns-clause-result_value : goal.returns-clause-result_value
returns-clause-result_value c = search (advances, refused-applies, rules)
