use Rattle.std.proofs.Common.{rules, tests}
use Rattle.std.proofs.lemmas.Iterator.{YieldsList-from_slice}
use Rattle.lists.proofs.Library.{any_of}
use Rattle.partitions.proofs.any_clashes.Goals as goal

pub returns : goal.returns
returns g c = any_of (g.T.Element.clash c.args.x.now) _ _ _ c.any.ensures.ran (YieldsList-from_slice c.args.l.now cc) (λ x b q k. search (rules, tests))
