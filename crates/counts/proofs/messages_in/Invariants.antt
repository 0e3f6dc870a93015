use Rattle.counts.proofs.Counting.{Mailing}
use Rattle.protocol.specs.Bounds.{max_messages}
use Prim.Native.Nat.{◌*◌, ◌≤◌}
use Rattle.counts.proofs.messages_in.Given as goal

abbrev pub invariant-loop-q : goal.invariant-loop-q
invariant-loop-q l = (l.sum ≤ l.q-index * max_messages) × Mailing l.fn.t l.sum l.q-index
