-- Cut, crash, recover and open (document 01, 'The nine events', 6 to 9).
use Rattle.std.specs.Prelude.{Bool, ◌&&◌, ◌||◌, false, not, true, List, [], ◌%◌, ◌/◌, ℕ, eqb, leb}
use Rattle.lists.specs.Lists.{map_from, map_if, pick}
use Rattle.protocol.specs.Answers.{Outcome, accept, check}
use Rattle.protocol.specs.Bounds.{max_partitions}
use Rattle.protocol.specs.Elements.{CutFromItself, Down, IsUp, Message, None, OutOfRange, Ready, Record, is_sent}
use Rattle.protocol.specs.Tables.{Model, Partition, fresh, in_stage, is_partition, partition, set_up, with_records}

-- ---- what is lost: `relapses p r` says which records of partition p become ready, `empties s r` which queues are dropped

abbrev pub relapsed : (ℕ → Record → Bool) → ℕ → Partition → Partition
relapsed relapses p x = with_records x (map_if (relapses p) (in_stage Ready) x.records)

abbrev pub drained : (ℕ → ℕ → Bool) → ℕ → List Message → List Message
drained empties i l = pick (empties (i / max_partitions) (i % max_partitions)) [] l

unfoldable pub lose : (ℕ → Record → Bool) → (ℕ → ℕ → Bool) → Model → Model
lose relapses empties m =
    record { partitions = map_from (relapsed relapses) 0 m.partitions; queues = map_from (drained empties) 0 m.queues }

-- ---- cut: "drops both queues between them. Sent records on either, whose object is on the other, become ready."

abbrev pub between : ℕ → ℕ → ℕ → ℕ → Bool
between a b s r = eqb s a && eqb r b || eqb s b && eqb r a

abbrev pub sent_between : ℕ → ℕ → ℕ → Record → Bool
sent_between a b p r = is_sent r.stage && between a b p r.partition

unfoldable pub cut : Model → ℕ → ℕ → Outcome
cut m a b =
    check (is_partition m a && is_partition m b) OutOfRange m
    (check (not (eqb a b)) CutFromItself m
    (check ((partition m a).up && (partition m b).up) Down m
    (accept 0 None (lose (sent_between a b) (between a b) m))))

-- ---- crash: "the partition goes down, queues to and from it empty, its records become ready, and others' sent records towards
-- it become ready"

abbrev pub touches : ℕ → ℕ → ℕ → Bool
touches p s r = eqb s p || eqb r p

abbrev pub falls_with : ℕ → ℕ → Record → Bool
falls_with p q r = eqb q p || is_sent r.stage && eqb r.partition p

unfoldable pub crash : Model → ℕ → Outcome
crash m p =
    check (is_partition m p) OutOfRange m
    (check (partition m p).up Down m
    (accept 0 None (set_up (lose (falls_with p) (touches p) m) p false)))

-- ---- recover: "it is up"

unfoldable pub recover : Model → ℕ → Outcome
recover m p =
    check (is_partition m p) OutOfRange m
    (check (not (partition m p).up) IsUp m
    (accept 0 None (set_up m p true)))

-- ---- open with a count: "the fresh tables, all up". A refused open gives back the tables that it was lent.

unfoldable pub open_tables : Model → ℕ → Outcome
open_tables m k = check (leb 1 k && leb k max_partitions) OutOfRange m (accept 0 None (fresh k))
