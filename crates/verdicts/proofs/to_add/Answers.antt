use Rattle.verdicts.proofs.Verdicts.{places}
use Rattle.lists.proofs.Finds.{found_below, found_in, found-fits}
use Rattle.std.proofs.Common.{rules}
use Rattle.verdicts.proofs.to_add.Goals as goal

pub offset_bounds-l-i : goal.offset_bounds-l-i
offset_bounds-l-i c = search (places, found_below, found_in, found-fits, rules)

pub bounds-l-i : goal.bounds-l-i
bounds-l-i c = search (places, found_below, found_in, found-fits, rules)

pub returns-in-Some : goal.returns-in-Some
returns-in-Some c = search (places, rules)

pub returns-in-None : goal.returns-in-None
returns-in-None c = search (places, found_below, found_in, found-fits, rules)
