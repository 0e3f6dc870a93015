use Rattle.std.proofs.Common.{rules}
use Rattle.lists.specs.Lists as lists
use Rattle.partitions.specs.Clauses.{placed_among}
use Rattle.partitions.proofs.is_placed.Goals as goal

pub returns-then-partition-n : goal.returns-then-partition-n
unfolding placed_among lists.every
returns-then-partition-n c = search rules

pub returns-else-partition-n : goal.returns-else-partition-n
unfolding placed_among lists.every
returns-else-partition-n c = search rules
