use Rattle.tables.proofs.Known.{sized}
use Rattle.losses.proofs.Loses.{partitions-lost}
use Rattle.answers.proofs.Ways.{read-records, ready-count}
use Rattle.std.proofs.Common.{rules}
use Rattle.losses.proofs.partitions_after.Goals as goal

pub loop-i-init : goal.loop-i-init
loop-i-init c = search (partitions-lost, ready-count, sized, rules)

pub loop-i-preserved : goal.loop-i-preserved
loop-i-preserved c = search (partitions-lost, sized, rules)

pub returns : goal.returns
returns c = search (partitions-lost, sized, rules)

pub partition_after-requires : goal.partition_after-requires
partition_after-requires c = search (partitions-lost, read-records, sized, rules)
