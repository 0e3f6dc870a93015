use Rattle.deliveries.proofs.Delivers.{pairs}
use Rattle.tables.proofs.Known.{sized}
use Rattle.std.proofs.Common.{rules}
use Rattle.deliveries.proofs.deliver_in_order.Goals as goal

pub deliver_there-requires : goal.deliver_there-requires
deliver_there-requires c = search (pairs, rules)

pub returns-then-not-are_there : goal.returns-then-not-are_there
returns-then-not-are_there c = search (pairs, sized, rules)

pub invariant_of-to : goal.invariant_of-to
invariant_of-to c = search (pairs, sized, rules)
