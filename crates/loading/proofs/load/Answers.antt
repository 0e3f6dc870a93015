use Rattle.loading.proofs.Loads.{loads}
use Rattle.tables.proofs.Known.{sized}
use Rattle.std.proofs.Common.{rules}
use Rattle.loading.proofs.load.Goals as goal

pub returns-then-not-in_order : goal.returns-then-not-in_order
returns-then-not-in_order c = search (loads, rules)

pub returns-then-not-is_there : goal.returns-then-not-is_there
returns-then-not-is_there c = search (loads, sized, rules)

pub invariant_of-here : goal.invariant_of-here
invariant_of-here c = search (loads, sized, rules)

pub returns : goal.returns
returns c = search (loads, rules)
