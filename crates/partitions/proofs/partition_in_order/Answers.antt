use Rattle.std.proofs.Common.{rules}
use Rattle.lists.specs.Lists as lists
use Rattle.partitions.specs.Clauses.{backpointers_fine, entries_fine, partition_fine, records_fine}
use Rattle.partitions.proofs.partition_in_order.Goals as goal

pub returns-then-p : goal.returns-then-p
unfolding partition_fine entries_fine backpointers_fine records_fine lists.every
returns-then-p c = search rules

pub returns-else-p : goal.returns-else-p
unfolding partition_fine entries_fine backpointers_fine records_fine lists.every
returns-else-p c = search rules

pub returns-else-has_room : goal.returns-else-has_room
unfolding partition_fine entries_fine backpointers_fine records_fine lists.every
returns-else-has_room c = search rules
