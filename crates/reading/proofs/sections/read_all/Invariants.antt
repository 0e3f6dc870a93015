use Rattle.std.proofs.Common.{length, ◌-◌}
use Rattle.reading.proofs.Gathers.{Walking}
use Rattle.reading.proofs.sections.read_all.Given as goal

abbrev pub invariant-loop-head : goal.invariant-loop-head
invariant-loop-head g l = let r = g.T.Row in Walking r.layout (r.fits l.head) g.row.N g.T.Slot.zero l.s l.from l.list l.end

abbrev pub decreases-loop-head : goal.decreases-loop-head
decreases-loop-head g l = length l.s - l.end
