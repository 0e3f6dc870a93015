use Rattle.std.proofs.Common.{rules}
use Rattle.partitions.specs.Clauses.{backpointer_among}
use Rattle.partitions.proofs.BackpointerElement.is_among.Goals as goal

pub returns-then-is_placed : goal.returns-then-is_placed
unfolding backpointer_among
returns-then-is_placed c = search rules

pub returns-else-is_placed : goal.returns-else-is_placed
unfolding backpointer_among
returns-else-is_placed c = search rules
