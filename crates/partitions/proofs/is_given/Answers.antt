use Rattle.std.proofs.Common.{rules}
use Rattle.partitions.specs.Clauses.{given}
use Rattle.partitions.proofs.is_given.Goals as goal

pub returns-then-number-ge1 : goal.returns-then-number-ge1
unfolding given
returns-then-number-ge1 c = search rules

pub returns-else-number-ge1 : goal.returns-else-number-ge1
unfolding given
returns-else-number-ge1 c = search rules
