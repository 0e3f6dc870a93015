use Rattle.deeds.proofs.Doing.{ask-beyond, ask-here}
use Rattle.std.proofs.Common.{rules}
use Rattle.deeds.proofs.Ordered.ask.Goals as goal

pub returns-in_default : goal.returns-in_default
returns-in_default c = search (ask-beyond, rules)

pub returns : goal.returns
returns c = search (ask-here, c.in-Some.ensures, rules)
