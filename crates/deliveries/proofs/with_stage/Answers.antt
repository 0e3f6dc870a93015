use Rattle.deliveries.proofs.Receives.{stagings}
use Rattle.lists.proofs.Finds.{found_below, found_in, found-fits}
use Rattle.std.proofs.Common.{rules}
use Rattle.deliveries.proofs.with_stage.Goals as goal

pub offset_bounds-l-i : goal.offset_bounds-l-i
offset_bounds-l-i c = search (stagings, found_below, found_in, found-fits, rules)

pub bounds-l-i : goal.bounds-l-i
bounds-l-i c = search (stagings, found_below, found_in, found-fits, rules)

pub change-requires : goal.change-requires
change-requires c = search (stagings, found_below, found_in, found-fits, rules)

pub returns-in-Some : goal.returns-in-Some
returns-in-Some c = search (stagings, rules)

pub returns-in_default : goal.returns-in_default
returns-in_default c = search (stagings, found_below, found_in, found-fits, rules)
