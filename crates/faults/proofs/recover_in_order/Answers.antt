use Rattle.answers.proofs.Ways.{now-four, now-there}
use Rattle.faults.proofs.Faulty.{recovers}
use Rattle.answers.proofs.Applied.{apply-change}
use Rattle.tables.proofs.Known.{sized}
use Rattle.std.proofs.Common.{rules}
use Rattle.faults.proofs.recover_in_order.Goals as goal

pub returns-then-not-is_there : goal.returns-then-not-is_there
returns-then-not-is_there c = search (recovers, apply-change, sized, rules)

pub invariant_of-here : goal.invariant_of-here
invariant_of-here c = search (recovers, now-there, now-four, apply-change, sized, rules)

pub apply-requires : goal.apply-requires
apply-requires c = search (recovers, now-there, now-four, apply-change, sized, rules)
