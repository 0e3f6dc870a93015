use Rattle.answers.proofs.Ways.{now-ready, test-fails, test-passes}
use Rattle.std.proofs.Common.{rules}
use Rattle.asks.proofs.ask.Goals as goal

pub returns : goal.returns
returns c = search (test-fails, test-passes, rules)

pub returns-then-not-in_order : goal.returns-then-not-in_order
returns-then-not-in_order c = search (test-fails, test-passes, rules)
