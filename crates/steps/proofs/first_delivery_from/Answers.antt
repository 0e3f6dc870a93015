use Rattle.steps.proofs.Tries.{all-tries}
use Rattle.tables.proofs.Known.{sized}
use Rattle.std.proofs.Common.{rules}
use Rattle.steps.proofs.first_delivery_from.Goals as goal

pub loop-r-init : goal.loop-r-init
loop-r-init c = search (all-tries, rules)

pub returns-then-awaits : goal.returns-then-awaits
returns-then-awaits c = search (all-tries, rules)

pub loop-r-preserved : goal.loop-r-preserved
loop-r-preserved c = search (all-tries, sized, rules)

pub returns : goal.returns
returns c = search (all-tries, sized, rules)

pub invariant_of-to : goal.invariant_of-to
invariant_of-to c = search (all-tries, sized, rules)
