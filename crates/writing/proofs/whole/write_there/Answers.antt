use Rattle.writing.proofs.Writes.{writes}
use Rattle.answers.proofs.Ways.{ready-count}
use Rattle.tables.proofs.Known.{sized}
use Rattle.std.proofs.Common.{rules}
use Rattle.writing.proofs.whole.write_there.Goals as goal

pub size_of-size-requires : goal.size_of-size-requires
size_of-size-requires c = search (writes, rules)

pub returns-then-room-size : goal.returns-then-room-size
returns-then-room-size c = search (writes, rules)

pub head_of-requires : goal.head_of-requires
head_of-requires c = search (writes, ready-count, sized, rules)

pub put_picture-requires : goal.put_picture-requires
put_picture-requires c = search (writes, ready-count, sized, rules)

pub returns : goal.returns
returns c = search (writes, rules)
