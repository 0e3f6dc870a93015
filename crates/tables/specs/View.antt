-- What the tables mean: their view as the model of document 01's definitions. A model's stored form, and which tables are shaped,
-- that is stored so.
use Rattle.std.specs.Prelude.{Bool, false, not, List, [], ◌∷◌, map, ◌≡◌, ◌<◌, ◌≤◌, ℕ, eqb, get_or, length, take}
use Rattle.lists.specs.Lists.{all, every, pad, tidy}
use Rattle.lists.specs.declared.Bounded.{Bounded}
use Rattle.protocol.specs.Bounds.{largest_number, max_backpointers, max_entries, max_messages, max_partitions, max_records, queue_count}
use Rattle.protocol.specs.declared.Backpointer.{Backpointer}
use Rattle.protocol.specs.declared.Entry.{Entry}
use Rattle.protocol.specs.declared.Message.{Message}
use Rattle.protocol.specs.declared.Record.{Record}
use Rattle.tables.specs.Slots.{free_backpointer, free_entry, free_message, free_record, zero_backpointer, zero_entry, zero_message, zero_record}
use Rattle.tables.specs.declared.Partition.{Partition}
use Rattle.tables.specs.declared.Tables.{Tables}
use Rattle.protocol.specs.Tables.{Partition as Part, Model, no_partition as no_part}

-- ---- the lists of the tables

abbrev pub Entries : Type 0
Entries = Bounded Entry max_entries

abbrev pub Backpointers : Type 0
Backpointers = Bounded Backpointer max_backpointers

abbrev pub Records : Type 0
Records = Bounded Record max_records

abbrev pub Queue : Type 0
Queue = Bounded Message max_messages

-- ---- the view

abbrev pub list_of : {A : Type 0} {N : ℕ} → Bounded A N → List A
list_of x = take x.count x.items

abbrev pub entries_of : Entries → List Entry
entries_of x = take x.count x.items

abbrev pub backpointers_of : Backpointers → List Backpointer
backpointers_of x = take x.count x.items

abbrev pub records_of : Records → List Record
records_of x = take x.count x.items

abbrev pub messages_of : Queue → List Message
messages_of x = take x.count x.items

abbrev pub view_partition : Partition → Part
view_partition p =
    record {
      up = p.up;
      last = p.last;
      entries = entries_of p.entries;
      backpointers = backpointers_of p.backpointers;
      records = records_of p.records;
    }

unfoldable pub view : Tables → Model
view t = record { partitions = map view_partition (take t.count t.partitions); queues = map messages_of t.queues }

-- ---- the stored form of a model: each list in its array, the slots past it zero, and so the partitions that are not there

abbrev pub pack_list : {A : Type 0} (N : ℕ) → A → List A → Bounded A N
pack_list N z l = record { count = length l; items = pad N z l }

abbrev pub pack_entries : List Entry → Entries
pack_entries l = record { count = length l; items = pad max_entries zero_entry l }

abbrev pub pack_backpointers : List Backpointer → Backpointers
pack_backpointers l = record { count = length l; items = pad max_backpointers zero_backpointer l }

abbrev pub pack_records : List Record → Records
pack_records l = record { count = length l; items = pad max_records zero_record l }

abbrev pub pack_queue : List Message → Queue
pack_queue l = record { count = length l; items = pad max_messages zero_message l }

abbrev pub pack_partition : Part → Partition
pack_partition x =
    record {
      up = x.up;
      last = x.last;
      entries = pack_entries x.entries;
      backpointers = pack_backpointers x.backpointers;
      records = pack_records x.records;
    }

-- one with nothing in it
unfoldable pub empty_partition : Bool → Partition
empty_partition up = pack_partition (record { up = up; last = 0; entries = []; backpointers = []; records = [] })

unfoldable pub zero_partition : Partition
zero_partition = pack_partition no_part

unfoldable pub pack : Model → Tables
pack m =
    record {
      count = length m.partitions;
      partitions = pad max_partitions zero_partition (map pack_partition m.partitions);
      queues = map pack_queue m.queues;
    }

-- ---- shaped: counts within bounds, unused slots and partitions zero. A queue of a partition that is not there is like any other
-- here: that nothing is in it is O7.

abbrev pub shaped_entries : Entries → Bool
shaped_entries x = tidy max_entries free_entry x.count x.items

abbrev pub shaped_backpointers : Backpointers → Bool
shaped_backpointers x = tidy max_backpointers free_backpointer x.count x.items

abbrev pub shaped_records : Records → Bool
shaped_records x = tidy max_records free_record x.count x.items

abbrev pub shaped_queue : Queue → Bool
shaped_queue x = tidy max_messages free_message x.count x.items

unfoldable pub shaped_partition : Partition → Bool
shaped_partition p = every (shaped_entries p.entries ∷ shaped_backpointers p.backpointers ∷ shaped_records p.records ∷ [])

-- nothing is in it, and it is not up
unfoldable pub absent : Partition → Bool
absent p =
    every
    (not p.up
    ∷ eqb p.last 0
    ∷ eqb p.entries.count 0
    ∷ eqb p.backpointers.count 0
    ∷ eqb p.records.count 0
    ∷ [])

unfoldable pub shaped : Tables → Bool
shaped t =
    every
    (tidy max_partitions absent t.count t.partitions
    ∷ all shaped_partition t.partitions
    ∷ all shaped_queue t.queues
    ∷ [])

-- ---- places of the tables, and what a read past their end gives

abbrev pub no_partition : Partition
no_partition =
    record {
      up = false;
      last = 0;
      entries = record { count = 0; items = [] };
      backpointers = record { count = 0; items = [] };
      records = record { count = 0; items = [] };
    }

abbrev pub no_queue : Queue
no_queue = record { count = 0; items = [] }

abbrev pub partition_at : Tables → ℕ → Partition
partition_at t i = get_or t.partitions i no_partition

abbrev pub queue_at : Tables → ℕ → Queue
queue_at t k = get_or t.queues k no_queue

-- ---- what the types of the arrays and of the numbers say

pub record SizedPartition (p : Partition) : Type 0 where
  pub last : p.last ≤ largest_number
  pub entries : length p.entries.items ≡ max_entries
  pub backpointers : length p.backpointers.items ≡ max_backpointers
  pub records : length p.records.items ≡ max_records

pub record Sized (t : Tables) : Type 0 where
  pub partitions : length t.partitions ≡ max_partitions
  pub queues : length t.queues ≡ queue_count
  pub partition : (i : ℕ) → i < max_partitions → SizedPartition (partition_at t i)
  pub queue : (k : ℕ) → k < queue_count → length (queue_at t k).items ≡ max_messages

-- ---- the counts within their bounds: what shaped tables give to those who read them

pub record Ranged (p : Partition) : Type 0 where
  pub entries : p.entries.count ≤ max_entries
  pub backpointers : p.backpointers.count ≤ max_backpointers
  pub records : p.records.count ≤ max_records

-- ---- tables that are the stored form of what they mean, and have a partition p
pub record Stored (t : Tables) (p : ℕ) : Type 0 where
  pub packed : pack (view t) ≡ t
  pub count : t.count ≤ max_partitions
  pub inside : p < t.count
