use Rattle.std.proofs.Common.{rules}
use Rattle.lists.specs.Lists as lists
use Rattle.tables.specs.View.{shaped_partition}
use Rattle.shapes.proofs.partition_shaped.Goals as goal

pub returns-then-is_shaped-2 : goal.returns-then-is_shaped-2
unfolding shaped_partition lists.every
returns-then-is_shaped-2 c = search rules

pub returns-else-is_shaped-2 : goal.returns-else-is_shaped-2
unfolding shaped_partition lists.every
returns-else-is_shaped-2 c = search rules
