use Rattle.deeds.proofs.Doing.{recover-beyond, recover-here}
use Rattle.std.proofs.Common.{rules}
use Rattle.deeds.proofs.Ordered.recover.Goals as goal

pub returns-in_default : goal.returns-in_default
returns-in_default c = search (recover-beyond, rules)

pub returns : goal.returns
returns c = search (recover-here, c.in-Some.ensures, rules)
