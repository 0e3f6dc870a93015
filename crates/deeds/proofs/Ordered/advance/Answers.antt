use Rattle.deeds.proofs.Doing.{advance-beyond, advance-here}
use Rattle.std.proofs.Common.{rules}
use Rattle.deeds.proofs.Ordered.advance.Goals as goal

pub returns-in_default : goal.returns-in_default
returns-in_default c = search (advance-beyond, rules)

pub returns : goal.returns
returns c = search (advance-here, c.in-Some.ensures, rules)
