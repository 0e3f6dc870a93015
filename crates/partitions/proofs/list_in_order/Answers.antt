use Rattle.std.proofs.Common.{rules}
use Rattle.lists.specs.Lists as lists
use Rattle.partitions.proofs.list_in_order.Goals as goal

pub returns-then-all_fine : goal.returns-then-all_fine
unfolding lists.every
returns-then-all_fine g c = search rules

pub returns-else-all_fine : goal.returns-else-all_fine
unfolding lists.every
returns-else-all_fine g c = search rules
