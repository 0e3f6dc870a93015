use Rattle.steps.proofs.Tries.{LogOf, Trying, logged}
use Rattle.steps.proofs.first_advance_of.Given as goal

abbrev pub invariant-loop-r : goal.invariant-loop-r
invariant-loop-r l = LogOf l.fn.here.tables.now l.fn.here.at l.log × Trying l.fn.here.tables.now (logged l.fn.here.at l.log) l.r-index
