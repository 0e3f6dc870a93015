use Rattle.advances.proofs.Advances.{there}
use Rattle.tables.proofs.Known.{sized}
use Rattle.std.proofs.Common.{rules}
use Rattle.advances.proofs.advance_in_order.Goals as goal

pub returns-then-not-is_there : goal.returns-then-not-is_there
returns-then-not-is_there c = search (there, sized, rules)

pub invariant_of-here : goal.invariant_of-here
invariant_of-here c = search (there, sized, rules)
