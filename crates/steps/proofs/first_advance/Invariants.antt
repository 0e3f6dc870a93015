use Rattle.tables.specs.View.{view}
use Rattle.steps.specs.Stepped.{advances_of}
use Rattle.steps.proofs.Tries.{Trying}
use Rattle.steps.proofs.first_advance.Given as goal

abbrev pub invariant-loop-p : goal.invariant-loop-p
invariant-loop-p l = Trying l.fn.t (advances_of (view l.fn.t)) l.p
