use Rattle.std.proofs.Common.{rules}
use Rattle.lists.specs.Lists as lists
use Rattle.tables.specs.View.{absent}
use Rattle.shapes.proofs.is_absent.Goals as goal

pub returns-then-p-eq0-3 : goal.returns-then-p-eq0-3
unfolding absent lists.every
returns-then-p-eq0-3 c = search rules

pub returns-else-p-eq0-3 : goal.returns-else-p-eq0-3
unfolding absent lists.every
returns-else-p-eq0-3 c = search rules
