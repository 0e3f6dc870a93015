use Rattle.steps.proofs.Tries.{Trying, receivers}
use Rattle.steps.proofs.first_delivery_from.Given as goal

abbrev pub invariant-loop-r : goal.invariant-loop-r
invariant-loop-r l = Trying l.fn.t (receivers l.fn.s) l.r
