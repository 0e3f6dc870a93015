-- Calls on the stored tables, one after the other, and what was written.
use Rattle.std.specs.Prelude.{List, [], ◌∷◌, ℕ, take}
use Rattle.protocol.specs.Events.{Event}
use Rattle.protocol.specs.Tables.{fresh}
use Rattle.tables.specs.View.{pack}
use Rattle.tables.specs.declared.Tables.{Tables}
use Rattle.answers.specs.Called.{called}
use Rattle.picture.specs.Store.{size_of}
use Rattle.writing.specs.Written.{written_from}

-- the tables after calls, each accepted or refused
unfoldable pub after_calls : List Event → Tables → Tables
after_calls [] t = t
after_calls (e ∷ es) t = after_calls es (called t e).tables

-- the tables of a fresh start with k partitions, after calls
abbrev pub reached_by : ℕ → List Event → Tables
reached_by k es = after_calls es (pack (fresh k))

-- the bytes that the writer reports, of the room that it was lent
abbrev pub picture_in : Tables → ℕ → List ℕ → List ℕ
picture_in t p room = take (size_of (written_from t p room).told) (written_from t p room).room
