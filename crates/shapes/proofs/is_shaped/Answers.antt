use Rattle.std.proofs.Common.{rules, tests}
use Rattle.std.proofs.lemmas.Iterator.{YieldsList-from_slice}
use Rattle.lists.proofs.Library.{all_of}
use Rattle.lists.proofs.Tidies.{tidies}
use Rattle.lists.specs.Lists as lists
use Rattle.shapes.proofs.is_shaped.Goals as goal

pub returns-then-l : goal.returns-then-l
returns-then-l g c =
    let all-free = all_of g.T.Slot.free _ _ c.all.result c.all.ensures.ran (YieldsList-from_slice c.unused.result.now cc) (λ x b q k. search (rules, tests)) in
    search (tidies, rules)

pub returns-else-l : goal.returns-else-l
unfolding lists.tidy
returns-else-l g c = search (tidies, rules)
