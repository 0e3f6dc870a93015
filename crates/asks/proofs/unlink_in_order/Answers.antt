use Rattle.asks.proofs.Unlinks.{unlink-not-there}
use Rattle.answers.proofs.Applied.{apply-change}
use Rattle.answers.proofs.Ways.{now-four, now-there}
use Rattle.tables.proofs.Known.{sized}
use Rattle.std.proofs.Common.{rules}
use Rattle.asks.proofs.unlink_in_order.Goals as goal

pub apply-requires : goal.apply-requires
apply-requires c = search (unlink-not-there, now-four, now-there, apply-change, sized, rules)

pub returns-then-not-is_there : goal.returns-then-not-is_there
returns-then-not-is_there c = search (unlink-not-there, apply-change, sized, rules)

pub invariant_of-here : goal.invariant_of-here
invariant_of-here c = search (now-four, now-there, apply-change, sized, rules)
