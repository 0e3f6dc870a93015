use Rattle.tables.proofs.Opened.{fresh-packed}
use Rattle.tables.proofs.fresh.fresh.Goals as goal

pub returns : goal.returns
returns c = fresh-packed c.args.count c.fill.new.self _ _ _ c.requires c.empty_partition-partitions.ensures c.empty_partition.ensures c.none.ensures (c.fill.ensures.after (λ y e. e))
