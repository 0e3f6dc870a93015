use Rattle.deliveries.proofs.Receives.{exactlies}
use Rattle.lists.proofs.Finds.{found_below}
use Rattle.std.proofs.Common.{rules}
use Rattle.deliveries.proofs.without_exactly.Goals as goal

pub remove-requires : goal.remove-requires
remove-requires c = search (exactlies, found_below, rules)

pub returns-in-Some : goal.returns-in-Some
returns-in-Some c = search (exactlies, rules)

pub returns-in_default : goal.returns-in_default
returns-in_default c = search (exactlies, found_below, rules)
