use Prim.Native.Nat.{◌≤◌}
use Rattle.protocol.specs.Bounds.{max_partitions}
use Rattle.losses.proofs.Loses.{stored_after}
use Rattle.lists.proofs.Mapped.{Mapping}
use Rattle.losses.proofs.partitions_after.Given as goal

abbrev pub invariant-loop-i : goal.invariant-loop-i
invariant-loop-i l = (l.fn.t.count ≤ max_partitions) × Mapping (stored_after l.loss) l.initial.partitions l.i l.partitions
