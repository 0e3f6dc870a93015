use Rattle.std.proofs.Common.{rules, tests, ◌&&◌}
use Rattle.std.proofs.lemmas.Iterator.{YieldsList-from_slice}
use Rattle.lists.proofs.Library.{all_of}
use Rattle.partitions.proofs.all_fine.Goals as goal

pub returns : goal.returns
returns g c = all_of (λ x. g.T.Element.among c.args.by.now.count x && g.T.Element.numbered c.args.by.now x) _ _ _ c.all.ensures.ran (YieldsList-from_slice c.args.l.now cc) (λ x b q k. search (rules, tests))
