use Rattle.losses.proofs.Loses.{tables-left}
use Rattle.std.proofs.Common.{rules}
use Rattle.stream.proofs.blocks.lose.Goals as goal

pub returns : goal.returns
returns c = tables-left _ _ (search rules) (search rules) _ _ c.partitions_after-partitions.ensures c.queues_after-queues.ensures
