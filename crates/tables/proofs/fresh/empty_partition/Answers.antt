use Rattle.tables.specs.View.{empty_partition}
use Rattle.tables.proofs.fresh.empty_partition.Goals as goal

pub returns : goal.returns
unfolding empty_partition
returns c = λ i. record { up = c.args.up; last = 0; entries = c.none.ensures i; backpointers = c.none-2.ensures i; records = c.none-3.ensures i }
