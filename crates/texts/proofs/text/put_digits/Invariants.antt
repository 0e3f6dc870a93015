use Rattle.texts.proofs.Digits.{Writing}
use Prim.Native.Nat.{◌+◌}
use Rattle.texts.proofs.text.put_digits.Given as goal

abbrev pub invariant-loop-rest : goal.invariant-loop-rest
invariant-loop-rest l = Writing l.initial.out l.end l.n l.out (l.at + 1) l.rest

abbrev pub decreases-loop-rest : goal.decreases-loop-rest
decreases-loop-rest l = l.rest
