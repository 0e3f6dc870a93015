use Rattle.std.proofs.Common.{rules}
use Rattle.lists.specs.Lists as lists
use Rattle.order.specs.Clauses.{partitions_fine}
use Rattle.order.proofs.Decides.{decided}
use Rattle.order.proofs.lent_in_order.Goals as goal

pub returns-then-places_in_order : goal.returns-then-places_in_order
unfolding partitions_fine lists.every
returns-then-places_in_order c = let whole = decided c.args.t.now c.are_sized.ensures in search rules

pub returns-else-places_in_order : goal.returns-else-places_in_order
unfolding partitions_fine lists.every
returns-else-places_in_order c = let whole = decided c.args.t.now c.are_sized.ensures in search rules
