use Rattle.steps.proofs.Tries.{awaitings}
use Rattle.tables.proofs.Known.{sized}
use Rattle.std.proofs.Common.{rules}
use Rattle.steps.proofs.awaits.Goals as goal

pub returns-then-own : goal.returns-then-own
returns-then-own c = search (awaitings, rules)

pub returns-else-own : goal.returns-else-own
returns-else-own c = search (awaitings, sized, rules)
