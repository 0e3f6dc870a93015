use Rattle.lists.proofs.Chains.{everys}
use Rattle.protocol.specs.Tables.{claimed}
use Rattle.partitions.specs.Clauses.{room_in}
use Rattle.picture.specs.Lone.{order_alone}
use Rattle.std.proofs.Common.{rules}
use Rattle.reading.proofs.lone.order_alone.Goals as goal

pub returns-then-has_room : goal.returns-then-has_room
unfolding order_alone claimed room_in
returns-then-has_room c = search (everys, rules)

pub returns-else-has_room : goal.returns-else-has_room
unfolding order_alone claimed room_in
returns-else-has_room c = search (everys, rules)
