use Rattle.deeds.proofs.Doing.{deliver-here, receiver-beyond, sender-beyond}
use Rattle.std.proofs.Common.{rules}
use Rattle.deeds.proofs.Ordered.deliver.Goals as goal
use Rattle.deeds.proofs.Ordered.deliver.Goals.{in_default-via-in-Some+in_default, in_default-via-in_default}

pub returns-in_default : goal.returns-in_default
returns-in_default c = elim c.in_default.branch [ in_default-via-in-Some+in_default w ↦ search (receiver-beyond, rules) | in_default-via-in_default w ↦ search (sender-beyond, rules) ]

pub returns : goal.returns
returns c = search (deliver-here, c.in-Some-Some.ensures, c.in-Some-Some.ensures', rules)
