use Rattle.counts.proofs.Counting.{lengths-are}
use Rattle.tables.proofs.Known.{sized}
use Rattle.std.proofs.Common.{rules}
use Rattle.counts.proofs.lengths_of.Goals as goal

pub returns : goal.returns
returns c = search (lengths-are, sized, rules)
