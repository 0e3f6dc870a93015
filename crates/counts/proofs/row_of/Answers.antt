use Rattle.counts.specs.Counts.{lengths_from}
use Rattle.counts.proofs.row_of.Goals as goal

pub returns : goal.returns
unfolding lengths_from
returns c = cc
