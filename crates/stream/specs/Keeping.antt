-- What the program keeps between two blocks, in the words of Feed.
use Rattle.std.specs.Prelude.{ℕ, List, take}
use Rattle.lists.specs.declared.Bounded.{Bounded}
use Rattle.sessions.specs.declared.Session.{Session}
use Rattle.feeding.specs.Feed.{Midway, line_room, midway}
use Rattle.stream.specs.declared.blocks.Kept.{Kept}

abbrev pub Line : Type 0
Line = Bounded ℕ line_room

-- for any room: whether a line has enough is left to the proofs
abbrev pub line_of : {N : ℕ} → Bounded ℕ N → List ℕ
line_of l = take l.count l.items

abbrev pub midway_of : Kept → Midway Session
midway_of k = midway (line_of k.line) k.lines k.session
