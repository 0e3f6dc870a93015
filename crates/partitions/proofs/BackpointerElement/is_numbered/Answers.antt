use Rattle.std.proofs.Common.{rules}
use Rattle.partitions.proofs.Laws.{givens}
use Rattle.partitions.proofs.BackpointerElement.is_numbered.Goals as goal

pub returns-in-Some : goal.returns-in-Some
returns-in-Some c = search (givens, rules)

pub returns-in-None : goal.returns-in-None
returns-in-None c = search (givens, rules)
