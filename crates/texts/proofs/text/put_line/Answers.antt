use Rattle.texts.proofs.Spaces.{lining}
use Rattle.texts.proofs.Buffers.{no_room, text-room}
use Rattle.std.proofs.Common.{rules}
use Rattle.texts.proofs.text.put_line.Goals as goal

pub returns-then-not-has_room : goal.returns-then-not-has_room
returns-then-not-has_room c = rw (← c.listed-numbers.ensures.elements) (search (lining, no_room, text-room, rules))

pub put_rest-requires : goal.put_rest-requires
put_rest-requires c = search (lining, no_room, text-room, rules)

pub returns : goal.returns
returns c = rw (← c.listed-numbers.ensures.elements) (search (lining, no_room, text-room, rules))
