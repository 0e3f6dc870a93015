use Rattle.texts.proofs.Spaces.{spacing}
use Rattle.std.proofs.Common.{rules}
use Rattle.texts.proofs.text.spaced_size.Goals as goal

pub loop-n-preserved : goal.loop-n-preserved
loop-n-preserved c = search (spacing, rules)

pub returns : goal.returns
returns c = search (spacing, rules)
