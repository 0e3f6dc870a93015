use Rattle.settle.proofs.Runs.{settles}
use Rattle.std.proofs.Common.{rules}
use Rattle.settle.proofs.run.settle_by_value.Goals as goal

pub returns : goal.returns
returns c = search (settles, rules)

pub returns-then-not-in_order : goal.returns-then-not-in_order
returns-then-not-in_order c = search (settles, rules)
