-- A partition's picture written into lent room, and loaded back (document 01, 'The picture').
use Rattle.std.specs.Prelude.{Bool, not, ◌&&◌, List, ℕ, eqb, leb, length, Result, Ok, Err}
use Rattle.lists.specs.Lists.{pick}
use Rattle.codec.specs.Over.{over}
use Rattle.protocol.specs.declared.Reply.TheVariants.{None}
use Rattle.protocol.specs.declared.Refusal.{Refusal}
use Rattle.protocol.specs.declared.Refusal.TheVariants.{OutOfRange, IsUp, OutOfOrder, FieldOutOfRange, RoomTooShort}
use Rattle.protocol.specs.Tables.{Model, partition_count, is_partition, partition, set_partition}
use Rattle.protocol.specs.Order.{in_order}
use Rattle.protocol.specs.Answers.{Outcome, accept, refuse, check}
use Rattle.picture.specs.Rows.{Read, fail, more}
use Rattle.picture.specs.Picture.{Picture, first, picture_of, write, read}

-- ---- "Writing touches exactly the bytes it reports; refusals of the writer: 16, 1, 22"

-- how many bytes were written, or the refusal, and the room after it
pub record Written : Type 0 where
  pub told : Result ℕ Refusal
  pub room : List ℕ

-- of a refusal none
abbrev pub size_of : Result ℕ Refusal → ℕ
size_of (Ok n) = n
size_of (Err why) = 0

-- "A refusal leaves … lent bytes unchanged"
abbrev pub unwritten : Refusal → List ℕ → Written
unwritten why room = record { told = Err why; room = room }

unfoldable pub written_into : List ℕ → List ℕ → Written
written_into bs room =
    pick (leb (length bs) (length room)) (record { told = Ok (length bs); room = over room 0 bs }) (unwritten RoomTooShort room)

unfoldable pub store : Model → ℕ → List ℕ → Written
store m p room =
    pick (in_order m) (pick (is_partition m p) (written_into (write first (picture_of m p)) room) (unwritten OutOfRange room)) (unwritten OutOfOrder room)

-- ---- "Load puts a picture into a named down partition: 16 for the tables before, 1, then the reader's, then 19 if its partition is
-- not that one or its count not the tables', 5, then 16 if the result is out of order"

abbrev pub is_for : Model → ℕ → Picture → Bool
is_for m p x = eqb x.partition p && eqb x.count (partition_count m)

unfoldable pub load_tables : Model → ℕ → Picture → Outcome
load_tables m p x =
    check (is_for m p x) FieldOutOfRange m
    (check (not (partition m p).up) IsUp m
    (check (in_order (set_partition m p x.tables)) OutOfOrder m
    (accept 0 None (set_partition m p x.tables))))

unfoldable pub load_read : Model → ℕ → Read Picture → Outcome
load_read m p (fail why) = refuse why m
load_read m p (more x r) = load_tables m p x

unfoldable pub load : Model → ℕ → List ℕ → Outcome
load m p bs =
    check (in_order m) OutOfOrder m
    (check (is_partition m p) OutOfRange m
    (load_read m p (read first bs)))
