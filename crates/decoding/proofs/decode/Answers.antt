use Rattle.decoding.proofs.Decodes.{decode-bad, decode-good, decode-none, decode-short}
use Rattle.std.proofs.Common.{rules}
use Rattle.decoding.proofs.decode.Goals as goal

pub returns-then-s-SIZE : goal.returns-then-s-SIZE
returns-then-s-SIZE g c = let laws = g.met.T.Row.laws in decode-short _ _ _ _ (rw c.SIZE.ensures at c.if-s-SIZE.true) laws.long laws.short

pub returns-in_default : goal.returns-in_default
returns-in_default g c = search (decode-none, rules)

pub returns-then-not-fits : goal.returns-then-not-fits
returns-then-not-fits g c = decode-bad _ _ _ _ _ c.in-Some.ensures _ c.fits.ensures (search rules)

pub returns : goal.returns
returns g c = decode-good _ _ _ _ _ c.in-Some.ensures _ c.fits.ensures (search rules)
