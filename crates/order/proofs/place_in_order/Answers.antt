use Rattle.std.proofs.Common.{rules}
use Rattle.order.specs.Clauses.{place_fine}
use Rattle.order.proofs.place_in_order.Goals as goal

pub returns-then-a-n : goal.returns-then-a-n
unfolding place_fine
returns-then-a-n c = search rules

pub returns-then-partition_shaped : goal.returns-then-partition_shaped
unfolding place_fine
returns-then-partition_shaped c = search rules

pub returns-else-partition_shaped : goal.returns-else-partition_shaped
unfolding place_fine
returns-else-partition_shaped c = search rules
