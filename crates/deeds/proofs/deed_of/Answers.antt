use Rattle.deeds.proofs.Doing.{open-done, sayings}
use Rattle.std.proofs.Common.{rules}
use Rattle.deeds.proofs.deed_of.Goals as goal

pub returns-in-Open : goal.returns-in-Open
returns-in-Open c = search (sayings, rules)

pub returns-in-NotUnderstood : goal.returns-in-NotUnderstood
returns-in-NotUnderstood c = search (sayings, rules)

pub returns-in-Totals : goal.returns-in-Totals
returns-in-Totals c = search (sayings, rules)

pub returns-in-Square : goal.returns-in-Square
returns-in-Square c = search (sayings, rules)

pub returns-in_default : goal.returns-in_default
returns-in_default c = search (open-done, rules)
