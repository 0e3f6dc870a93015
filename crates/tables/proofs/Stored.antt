-- What tables in their stored form hold at each place, and what they are after a store.
use mathlib.Core.List.{List, map}
use mathlib.Core.Path.{◌∙◌, ◌≡◌, ap, ap₂, sym}
use Prim.Native.Nat.{◌*◌, ◌+◌, ◌<◌, ℕ}
use lib.ListN.{get_or, length, length-map, length-set, set}
use lib.Seq.{get_or-take}
use Rattle.lists.specs.Lists.{pad}
use Rattle.protocol.specs.Bounds.{max_backpointers, max_entries, max_messages, max_partitions, max_records}
use Rattle.protocol.specs.Tables.{Model, partition, set_partition, set_queue, no_partition as no_part, Partition as Part}
use Rattle.protocol.specs.declared.Backpointer.{Backpointer}
use Rattle.protocol.specs.declared.Entry.{Entry}
use Rattle.protocol.specs.declared.Message.{Message}
use Rattle.protocol.specs.declared.Record.{Record}
use Rattle.tables.specs.Slots.{zero_backpointer, zero_entry, zero_message, zero_record}
use Rattle.tables.specs.View.{Stored, backpointers_of, entries_of, messages_of, no_partition, pack, pack_backpointers, pack_entries, pack_partition, pack_queue, pack_records, partition_at, records_of, view, zero_partition, Entries, Backpointers, Records, Queue}
use Rattle.tables.specs.declared.Partition.{Partition}
use Rattle.tables.specs.declared.Tables.{Tables}
use Rattle.lists.proofs.Fills.{take-pad}
use Rattle.lists.proofs.Images.{map_at}
use Rattle.lists.proofs.Stores.{map-set, pad-set}

get_or-pad : {A : Type 0} (N : ℕ) (z d : A) (l : List A) (i : ℕ) → i < length l → get_or (pad N z l) i d ≡ get_or l i d
get_or-pad N z d l i h = sym (get_or-take (length l) (pad N z l) i d h) ∙ ap (λ (k : List _). get_or k i d) (take-pad N z l)

-- what is in its stored form
pub packed-entries : (l : Entries) (k : List Entry) → l ≡ pack_entries k → pack_entries (entries_of l) ≡ l
packed-entries l k e = rw e (ap pack_entries (take-pad max_entries zero_entry k))

pub packed-backpointers : (l : Backpointers) (k : List Backpointer) → l ≡ pack_backpointers k → pack_backpointers (backpointers_of l) ≡ l
packed-backpointers l k e = rw e (ap pack_backpointers (take-pad max_backpointers zero_backpointer k))

pub packed-records : (l : Records) (k : List Record) → l ≡ pack_records k → pack_records (records_of l) ≡ l
packed-records l k e = rw e (ap pack_records (take-pad max_records zero_record k))

pub packed-messages : (l : Queue) (k : List Message) → l ≡ pack_queue k → pack_queue (messages_of l) ≡ l
packed-messages l k e = rw e (ap pack_queue (take-pad max_messages zero_message k))

module _ (t : Tables) (p : ℕ) (s : Stored t p) where
  abbrev m : Model
  m = view t

  pub counted : length m.partitions ≡ t.count
  unfolding pack
  counted = ap (λ (u : Tables). u.count) s.packed

  within : p < length m.partitions
  within = rw counted s.inside

  -- partition p is the stored form of the model's
  pub partition-stored : partition_at t p ≡ pack_partition (partition m p)
  unfolding pack partition
  partition-stored =
      let l : List Partition = map pack_partition m.partitions in
      let h : p < length l = rw (length-map m.partitions pack_partition) within in
      ap (λ (u : Tables). get_or u.partitions p no_partition) (sym s.packed)
      ∙ get_or-pad max_partitions zero_partition no_partition l p h
      ∙ map_at pack_partition m.partitions p no_partition no_part within

  -- after a store of a partition in its stored form
  pub set-stored : (x : Partition) (y : Part) → pack_partition y ≡ x
      → record { count = t.count; partitions = set t.partitions p x; queues = t.queues } ≡ pack (set_partition m p y)
  unfolding pack set_partition
  set-stored x y e =
      let a : t.count ≡ length (set m.partitions p y) = sym (length-set m.partitions p y ∙ counted) in
      let l : t.partitions ≡ pad max_partitions zero_partition (map pack_partition m.partitions) = ap (λ (u : Tables). u.partitions) (sym s.packed) in
      let b : set t.partitions p x ≡ pad max_partitions zero_partition (map pack_partition (set m.partitions p y)) =
      ap₂ (λ (k : List Partition) (z : Partition). set k p z) l (sym e)
      ∙ sym (pad-set max_partitions zero_partition (map pack_partition m.partitions) p (pack_partition y) (rw (length-map m.partitions pack_partition) within))
      ∙ ap (pad max_partitions zero_partition) (sym (map-set pack_partition m.partitions p y))
      in
      let c : t.queues ≡ map pack_queue m.queues = ap (λ (u : Tables). u.queues) (sym s.packed) in
      λ i. record { count = a i; partitions = b i; queues = c i }

  -- one law for each thing of a partition that is stored; x is the partition that was read
  module _ (x : Partition) (e : x ≡ partition_at t p) where
    read : x ≡ pack_partition (partition m p)
    read = e ∙ partition-stored

    abbrev Stores : Partition → Part → Type 0
    Stores y z = record { count = t.count; partitions = set t.partitions p y; queues = t.queues } ≡ pack (set_partition m p z)

    -- what was read is in its stored form
    pub entries-stored : pack_entries (entries_of x.entries) ≡ x.entries
    entries-stored = packed-entries x.entries (partition m p).entries (ap (λ (y : Partition). y.entries) read)

    pub backpointers-stored : pack_backpointers (backpointers_of x.backpointers) ≡ x.backpointers
    backpointers-stored = packed-backpointers x.backpointers (partition m p).backpointers (ap (λ (y : Partition). y.backpointers) read)

    pub records-stored : pack_records (records_of x.records) ≡ x.records
    records-stored = packed-records x.records (partition m p).records (ap (λ (y : Partition). y.records) read)

-- a queue
pub stored-queue : (t : Tables) (s r : ℕ) → Stored t s → Stored t r → (q : Queue) → pack_queue (messages_of q) ≡ q
    → record { count = t.count; partitions = t.partitions; queues = set t.queues (s * max_partitions + r) q } ≡ pack (set_queue (view t) s r (messages_of q))
unfolding pack set_queue
stored-queue t s r a b q e =
    let c : set t.queues (s * max_partitions + r) q ≡ map pack_queue (set (view t).queues (s * max_partitions + r) (messages_of q)) =
    ap₂ (λ (k : List Queue) (z : Queue). set k (s * max_partitions + r) z) (ap (λ (u : Tables). u.queues) (sym a.packed)) (sym e)
    ∙ sym (map-set pack_queue (view t).queues (s * max_partitions + r) (messages_of q))
    in
    λ i. record { count = sym (counted t s a) i; partitions = ap (λ (u : Tables). u.partitions) (sym a.packed) i; queues = c i }
