use Rattle.steps.proofs.Tries.{step-tries}
use Rattle.std.proofs.Common.{rules}
use Rattle.steps.proofs.first_step.Goals as goal

pub returns : goal.returns
returns c = search (step-tries, rules)

pub returns-then-is_some : goal.returns-then-is_some
returns-then-is_some c = search (step-tries, rules)
