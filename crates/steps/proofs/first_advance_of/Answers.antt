use Rattle.steps.proofs.Tries.{log-read, log-tries}
use Rattle.std.proofs.Common.{rules}
use Rattle.steps.proofs.first_advance_of.Goals as goal

pub loop-r-init : goal.loop-r-init
loop-r-init c = (log-read _ _ c.args.here.sized c.args.here.ready c.args.here.there _ c.own.ensures _ c.listed-log.ensures.elements, search (log-tries, rules))

pub returns-then-is_some : goal.returns-then-is_some
returns-then-is_some c = search (log-tries, rules)

pub loop-r-preserved : goal.loop-r-preserved
loop-r-preserved c = search (log-tries, rules)

pub returns : goal.returns
returns c = search (log-tries, rules)
