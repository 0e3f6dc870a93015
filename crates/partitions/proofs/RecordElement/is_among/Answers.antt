use Rattle.std.proofs.Common.{rules}
use Rattle.partitions.specs.Clauses.{record_among}
use Rattle.partitions.proofs.RecordElement.is_among.Goals as goal

pub returns-then-good : goal.returns-then-good
unfolding record_among
returns-then-good c = search rules

pub returns-else-good : goal.returns-else-good
unfolding record_among
returns-else-good c = search rules
