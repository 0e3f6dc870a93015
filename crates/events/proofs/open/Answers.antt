use Rattle.faults.proofs.Faulty.{opens}
use Rattle.std.proofs.Common.{rules}
use Rattle.events.proofs.open.Goals as goal

pub returns : goal.returns
returns c = search (opens, rules)

pub returns-then-not-is_count : goal.returns-then-not-is_count
returns-then-not-is_count c = search (opens, rules)
