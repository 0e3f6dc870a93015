use Rattle.rewrite.proofs.Times.{again-counts, again-more, again-none}
use Rattle.rewrite.proofs.write_times.Goals as goal

pub loop-time-init : goal.loop-time-init
loop-time-init c = again-none _ _ _

pub loop-time-preserved : goal.loop-time-preserved
loop-time-preserved c = again-more _ _ _ _ _ _ c.loop-time.invariant _ _ c.write_picture-told.ensures

pub returns-clause-prefix_len : goal.returns-clause-prefix_len
returns-clause-prefix_len c = again-counts _ _ _ _ _ _ c.loop-time.invariant
