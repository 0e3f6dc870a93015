use Rattle.std.proofs.Common.{rules}
use Rattle.lists.specs.Lists as lists
use Rattle.protocol.specs.Order.{matches}
use Rattle.messages.proofs.is_of.Goals as goal

pub returns-then-x-r-4 : goal.returns-then-x-r-4
unfolding matches lists.every
returns-then-x-r-4 c = search rules

pub returns-else-x-r-4 : goal.returns-else-x-r-4
unfolding matches lists.every
returns-else-x-r-4 c = search rules
