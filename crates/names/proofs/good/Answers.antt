use Rattle.lists.specs.Lists as lists
use Rattle.names.specs.Names.{good_name}
use Rattle.names.proofs.Known.{bytes-length}
use Rattle.names.proofs.Steps.{goods}
use Rattle.std.proofs.Common.{rules}
use Rattle.names.proofs.good.Goals as goal

pub returns-then-are_letters : goal.returns-then-are_letters
returns-then-are_letters c = search (goods, bytes-length, rules)

pub returns-else-are_letters : goal.returns-else-are_letters
unfolding good_name lists.every
returns-else-are_letters c = search (goods, bytes-length, rules)
