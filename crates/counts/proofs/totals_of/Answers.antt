use Rattle.counts.proofs.Counting.{summing}
use Rattle.tables.proofs.Known.{sized}
use Rattle.std.proofs.Common.{rules}
use Rattle.counts.proofs.totals_of.Goals as goal

pub loop-p-init : goal.loop-p-init
loop-p-init c = search (summing, sized, rules)

pub plus_partition-sums-requires : goal.plus_partition-sums-requires
plus_partition-sums-requires c = search (summing, sized, rules)

pub loop-p-preserved : goal.loop-p-preserved
loop-p-preserved c = search (summing, sized, rules)

pub returns : goal.returns
returns c = search (summing, sized, rules)
