use Rattle.lists.proofs.Mapped.{Mapping}
use Rattle.losses.proofs.Loses.{leaves}
use Rattle.losses.proofs.relapse_records.Given as goal

abbrev pub invariant-loop-i : goal.invariant-loop-i
invariant-loop-i l = Mapping (leaves l.loss l.p) l.l.items l.i l.items
