use Rattle.steps.proofs.Tries.{Trying}
use Rattle.steps.specs.Stepped.{deliveries_from}
use Rattle.tables.specs.View.{view}
use Rattle.steps.proofs.first_delivery.Given as goal

abbrev pub invariant-loop-s : goal.invariant-loop-s
invariant-loop-s l = Trying l.fn.t (deliveries_from (view l.fn.t)) l.s
