use Rattle.deeds.proofs.Doing.{crash-done}
use Rattle.std.proofs.Common.{rules}
use Rattle.deeds.proofs.Ordered.crash.Goals as goal

pub returns : goal.returns
returns c = search (crash-done, rules)
