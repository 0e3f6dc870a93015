use Rattle.deeds.proofs.Doing.{cut-done}
use Rattle.std.proofs.Common.{rules}
use Rattle.deeds.proofs.Ordered.cut.Goals as goal

pub returns : goal.returns
returns c = search (cut-done, rules)
