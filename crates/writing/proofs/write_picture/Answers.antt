use Rattle.writing.proofs.Writes.{writings}
use Rattle.tables.proofs.Known.{sized}
use Rattle.std.proofs.Common.{rules}
use Rattle.writing.proofs.write_picture.Goals as goal

pub returns-then-not-in_order : goal.returns-then-not-in_order
returns-then-not-in_order c = search (writings, sized, rules)

pub returns-then-not-is_there : goal.returns-then-not-is_there
returns-then-not-is_there c = search (writings, sized, rules)

pub invariant_of-here : goal.invariant_of-here
invariant_of-here c = search (writings, sized, rules)

pub returns : goal.returns
returns c = search (writings, rules)
