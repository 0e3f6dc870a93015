use Rattle.steps.proofs.Tries.{tries}
use Rattle.std.proofs.Common.{rules}
use Rattle.steps.proofs.take_delivery.Goals as goal

pub returns : goal.returns
returns c = search (tries, rules)
