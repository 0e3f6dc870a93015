use Rattle.steps.proofs.Tries.{all-tries}
use Rattle.tables.proofs.Known.{sized}
use Rattle.std.proofs.Common.{rules}
use Rattle.steps.proofs.first_delivery.Goals as goal

pub loop-s-init : goal.loop-s-init
loop-s-init c = search (all-tries, rules)

pub loop-s-preserved : goal.loop-s-preserved
loop-s-preserved c = search (all-tries, sized, rules)

pub returns : goal.returns
returns c = search (all-tries, sized, rules)

pub first_delivery_from-step-requires : goal.first_delivery_from-step-requires
first_delivery_from-step-requires c = search (all-tries, sized, rules)

pub returns-then-is_some : goal.returns-then-is_some
returns-then-is_some c = search (all-tries, sized, rules)
