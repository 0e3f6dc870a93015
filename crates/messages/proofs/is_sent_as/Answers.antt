use Rattle.std.proofs.Common.{rules}
use Rattle.lists.specs.Lists as lists
use Rattle.messages.proofs.is_sent_as.Goals as goal

pub returns-then-r-to : goal.returns-then-r-to
unfolding lists.every
returns-then-r-to c = search rules

pub returns-else-r-to : goal.returns-else-r-to
unfolding lists.every
returns-else-r-to c = search rules
