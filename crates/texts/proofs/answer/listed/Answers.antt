use Rattle.texts.proofs.Squares.{list-stored}
use Rattle.std.proofs.Common.{refl}
use Rattle.std.proofs.Common.{rules}
use Rattle.texts.proofs.answer.listed.Goals as goal

pub returns : goal.returns
returns c = list-stored _ _ _ refl (search rules)
