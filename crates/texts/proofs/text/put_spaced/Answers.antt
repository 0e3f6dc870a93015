use Rattle.texts.proofs.Spaces.{puttings}
use Rattle.std.proofs.Common.{rules}
use Rattle.texts.proofs.text.put_spaced.Goals as goal

pub loop-n-init : goal.loop-n-init
loop-n-init c = search (puttings, rules)

pub put_next-next-requires : goal.put_next-next-requires
put_next-next-requires c = search (puttings, rules)

pub loop-n-preserved : goal.loop-n-preserved
loop-n-preserved c = search (puttings, rules)
