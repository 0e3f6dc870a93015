-- The tables of the whole service as lists without padding, how they are read, and the few ways in which they change
-- (document 01, 'The tables').
use Rattle.std.specs.Prelude.{Bool, ◌&&◌, false, true, List, [], ◌++◌, ◌∷◌, ◌*◌, ◌+◌, suc, ℕ, eqb, ltb, get_or, length, replicate, set}
use Rattle.lists.specs.Lists.{is_none, keep, map_if, total, without}
use Rattle.names.specs.Names.{same_name}
use Rattle.protocol.specs.Bounds.{directories, max_partitions, objects, queue_count}
use Rattle.protocol.specs.Elements.{Backpointer, Body, Entry, Message, Name, Ready, Record, Stage, Unlink, adds}

-- "at most 64 entries, 64 back-pointers, 16 log records, and the last transaction number it gave"
pub record Partition : Type 0 where
  pub up : Bool
  pub last : ℕ
  pub entries : List Entry
  pub backpointers : List Backpointer
  pub records : List Record

-- "one for each ordered pair of partitions": the queue from s to r stands at place s * 4 + r
pub record Model : Type 0 where
  pub partitions : List Partition
  pub queues : List (List Message)

-- ---- reading

abbrev pub partition_count : Model → ℕ
partition_count m = length m.partitions

abbrev pub is_partition : Model → ℕ → Bool
is_partition m p = ltb p (partition_count m)

abbrev pub is_directory : ℕ → Bool
is_directory d = ltb d directories

abbrev pub is_object : ℕ → Bool
is_object o = ltb o objects

-- a partition that is not there has nothing, and is not up
unfoldable pub no_partition : Partition
no_partition = record { up = false; last = 0; entries = []; backpointers = []; records = [] }

unfoldable pub partition : Model → ℕ → Partition
partition m p = get_or m.partitions p no_partition

unfoldable pub queue : Model → ℕ → ℕ → List Message
queue m s r = get_or m.queues (s * max_partitions + r) []

-- ---- what bears a number, and what stands in a place

abbrev pub entry_bears : ℕ → Entry → Bool
entry_bears n e = eqb e.number n

abbrev pub record_bears : ℕ → Record → Bool
record_bears n r = eqb r.number n

-- the entry stands under this name in this directory
abbrev pub stands_under : ℕ → Name → Entry → Bool
stands_under d s e = eqb e.directory d && same_name e.name s

-- the back-pointer has this object, parent, directory and name
abbrev pub in_place : ℕ → ℕ → ℕ → Name → Backpointer → Bool
in_place o p d s b = eqb b.object o && (eqb b.parent p && (eqb b.directory d && same_name b.name s))

-- a link or create record whose number no entry bears
abbrev pub unentered : List Entry → Record → Bool
unentered es r = adds r.kind && is_none (keep (entry_bears r.number) es)

-- the sum in O5: "entries, plus link and create records whose number no entry bears"
unfoldable pub claimed : Partition → ℕ
claimed x = length x.entries + length (keep (unentered x.entries) x.records)

-- ---- what is made of a record

abbrev pub in_stage : Stage → Record → Record
in_stage g r =
    record { kind = r.kind; directory = r.directory; name = r.name; partition = r.partition; object = r.object; number = r.number; stage = g }

-- "turns the record into a ready unlink with the same number"
abbrev pub turned : Record → Record
turned r =
    record { kind = Unlink; directory = r.directory; name = r.name; partition = r.partition; object = r.object; number = r.number; stage = Ready }

abbrev pub message_of : Body → Record → Message
message_of b r =
    record { body = b; kind = r.kind; directory = r.directory; name = r.name; partition = r.partition; object = r.object; number = r.number }

abbrev pub entry_of : Record → Entry
entry_of r = record { directory = r.directory; name = r.name; partition = r.partition; object = r.object; number = r.number }

-- ---- writing: "a new item goes last. A removed one closes the gap."

abbrev pub with_up : Bool → Partition → Partition
with_up u x = record { up = u; last = x.last; entries = x.entries; backpointers = x.backpointers; records = x.records }

abbrev pub with_last : ℕ → Partition → Partition
with_last n x = record { up = x.up; last = n; entries = x.entries; backpointers = x.backpointers; records = x.records }

abbrev pub with_entries : Partition → List Entry → Partition
with_entries x l = record { up = x.up; last = x.last; entries = l; backpointers = x.backpointers; records = x.records }

abbrev pub with_backpointers : Partition → List Backpointer → Partition
with_backpointers x l = record { up = x.up; last = x.last; entries = x.entries; backpointers = l; records = x.records }

abbrev pub with_records : Partition → List Record → Partition
with_records x l = record { up = x.up; last = x.last; entries = x.entries; backpointers = x.backpointers; records = l }

unfoldable pub set_partition : Model → ℕ → Partition → Model
set_partition m p x = record { partitions = set m.partitions p x; queues = m.queues }

unfoldable pub set_queue : Model → ℕ → ℕ → List Message → Model
set_queue m s r l = record { partitions = m.partitions; queues = set m.queues (s * max_partitions + r) l }

unfoldable pub set_up : Model → ℕ → Bool → Model
set_up m p u = set_partition m p (with_up u (partition m p))

unfoldable pub change_entries : Model → ℕ → (List Entry → List Entry) → Model
change_entries m p f = set_partition m p (with_entries (partition m p) (f (partition m p).entries))

unfoldable pub change_backpointers : Model → ℕ → (List Backpointer → List Backpointer) → Model
change_backpointers m p f = set_partition m p (with_backpointers (partition m p) (f (partition m p).backpointers))

unfoldable pub change_records : Model → ℕ → (List Record → List Record) → Model
change_records m p f = set_partition m p (with_records (partition m p) (f (partition m p).records))

-- partition p gives its next number
unfoldable pub give_number : Model → ℕ → Model
give_number m p = set_partition m p (with_last (suc (partition m p).last) (partition m p))

abbrev pub open_record : Model → ℕ → Record → Model
open_record m p r = change_records m p (λ l. l ++ r ∷ [])

abbrev pub set_stage : Model → ℕ → ℕ → Stage → Model
set_stage m p n g = change_records m p (map_if (record_bears n) (in_stage g))

abbrev pub turn_record : Model → ℕ → ℕ → Model
turn_record m p n = change_records m p (map_if (record_bears n) turned)

abbrev pub close_record : Model → ℕ → ℕ → Model
close_record m p n = change_records m p (without (record_bears n))

abbrev pub enter_name : Model → ℕ → Entry → Model
enter_name m p e = change_entries m p (λ l. l ++ e ∷ [])

abbrev pub take_out_name : Model → ℕ → ℕ → Model
take_out_name m p n = change_entries m p (without (entry_bears n))

abbrev pub add_backpointer : Model → ℕ → Backpointer → Model
add_backpointer m p b = change_backpointers m p (λ l. l ++ b ∷ [])

abbrev pub drop_backpointer : Model → ℕ → (Backpointer → Bool) → Model
drop_backpointer m p f = change_backpointers m p (without f)

unfoldable pub send : Model → ℕ → ℕ → Message → Model
send m s r x = set_queue m s r (queue m s r ++ x ∷ [])

-- ---- the fresh tables: all up, nothing in them

unfoldable pub fresh_partition : Partition
fresh_partition = record { up = true; last = 0; entries = []; backpointers = []; records = [] }

unfoldable pub fresh : ℕ → Model
fresh k = record { partitions = replicate k fresh_partition; queues = replicate queue_count [] }

-- ---- the totals that the rehearsal's `S` gives

pub record Totals : Type 0 where
  pub entries : ℕ
  pub backpointers : ℕ
  pub records : ℕ
  pub messages : ℕ

abbrev pub totals : Model → Totals
totals m =
    record {
      entries = total (λ (x : Partition). length x.entries) m.partitions;
      backpointers = total (λ (x : Partition). length x.backpointers) m.partitions;
      records = total (λ (x : Partition). length x.records) m.partitions;
      messages = total (λ (l : List Message). length l) m.queues;
    }
