use Rattle.steps.proofs.Tries.{tries}
use Rattle.std.proofs.Common.{rules}
use Rattle.steps.proofs.try_advance.Goals as goal

pub returns : goal.returns
returns c = search (tries, rules)
