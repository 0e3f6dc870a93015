-- What the program does between its input and its output: how often, into which tables, and what is left in the room.
use Rattle.std.specs.Prelude.{None, Option, Some, ℕ, suc, zero, List, ltb, length, take, ◌≤◌, ◌≡◌, Ok}
use Rattle.lists.specs.Lists.{pick}
use Rattle.protocol.specs.Events.{crashing, opening}
use Rattle.protocol.specs.Tables.{fresh}
use Rattle.tables.specs.View.{pack}
use Rattle.tables.specs.declared.Tables.{Tables}
use Rattle.answers.specs.Called.{called}
use Rattle.picture.specs.Store.{Written}
use Rattle.picture.specs.declared.Head.{Head}
use Rattle.writing.specs.Written.{written_from}
use Rattle.lines.specs.Places.{number_at}

-- a number that fills a word of this length; of anything else 0
abbrev pub filling : ℕ → Option (ℕ × ℕ) → ℕ
filling size (Some (n, next)) = pick (ltb next size) 0 n
filling size None = 0

abbrev pub times_of : List ℕ → ℕ
times_of word = filling (length word) (number_at word 0)

-- fresh tables of as many partitions as a header says, the header's own down
abbrev pub awaiting : Head → Tables
awaiting h = (called (called (pack (fresh 0)) (opening h.count)).tables (crashing h.partition)).tables

-- a picture written so many times, each over what the one before left; before the first nothing is written
unfoldable pub again : Tables → ℕ → ℕ → List ℕ → Written
again t p zero room = record { told = Ok 0; room = room }
again t p (suc n) room = written_from t p (again t p n room).room

-- so many bytes stand at the start of a buffer: `&xs[..n]` is within it and has n bytes
abbrev pub Counts : ℕ → List ℕ → Type 0
Counts n xs = (n ≤ length xs) × (n ≡ length (take n xs))
