use Rattle.lists.proofs.Chains.{ands, everys}
use Rattle.std.proofs.Common.{rules}
use Rattle.asks.proofs.Naming.is_in_range.Goals as goal

pub returns-then-self-n : goal.returns-then-self-n
returns-then-self-n c = search (ands, everys, rules)

pub returns-else-self-n : goal.returns-else-self-n
returns-else-self-n c = search (ands, everys, rules)
