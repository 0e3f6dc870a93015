use Rattle.steps.proofs.Tries.{all-tries}
use Rattle.tables.proofs.Known.{sized}
use Rattle.std.proofs.Common.{rules}
use Rattle.steps.proofs.first_advance.Goals as goal

pub loop-p-init : goal.loop-p-init
loop-p-init c = search (all-tries, rules)

pub loop-p-preserved : goal.loop-p-preserved
loop-p-preserved c = search (all-tries, sized, rules)

pub returns : goal.returns
returns c = search (all-tries, sized, rules)

pub invariant_of-here : goal.invariant_of-here
invariant_of-here c = search (all-tries, sized, rules)

pub returns-then-is_some : goal.returns-then-is_some
returns-then-is_some c = search (all-tries, rules)
