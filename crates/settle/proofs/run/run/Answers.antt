use Rattle.settle.proofs.Runs.{runs}
use Rattle.tables.proofs.Known.{sized}
use Rattle.std.proofs.Common.{rules}
use Rattle.settle.proofs.run.run.Goals as goal

pub loop-taken-init : goal.loop-taken-init
loop-taken-init c = search (runs, sized, rules)

pub loop-taken-preserved : goal.loop-taken-preserved
loop-taken-preserved c = search (runs, c.in-Some.ensures, rules)

pub returns-after-loop-taken : goal.returns-after-loop-taken
returns-after-loop-taken c = search (runs, rules)

pub returns-in_default : goal.returns-in_default
returns-in_default c = search (runs, c.in_default.ensures, rules)
