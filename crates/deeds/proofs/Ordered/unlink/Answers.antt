use Rattle.deeds.proofs.Doing.{unlink-beyond, unlink-here}
use Rattle.std.proofs.Common.{rules}
use Rattle.deeds.proofs.Ordered.unlink.Goals as goal

pub returns-in_default : goal.returns-in_default
returns-in_default c = search (unlink-beyond, rules)

pub returns : goal.returns
returns c = search (unlink-here, c.in-Some.ensures, rules)
