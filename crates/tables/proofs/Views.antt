-- What the view of the tables has at each place.
use mathlib.Core.Bool.{true}
use mathlib.Core.Path.{◌∙◌, ◌≡◌, ap, sym}
use Prim.Native.Nat.{◌*◌, ◌+◌, ◌<◌, ◌≤◌, ℕ}
use native.Mathlib.Omega.{arith}
use lib.Dec.{ltb}
use lib.ListN.{get_or-map, length, length-map, take}
use lib.Seq.{get_or-take, length-take-le}
use borrow.Author.Tests.{ltb-false, ltb-true}
use Rattle.protocol.specs.Bounds.{max_backpointers, max_entries, max_partitions, max_records, queue_count}
use Rattle.tables.specs.Slots.{free_backpointer, free_entry, free_record}
use Rattle.tables.specs.View.{Ranged, Sized, messages_of, no_partition, no_queue, partition_at, queue_at, shaped, shaped_partition, view, view_partition}
use Rattle.tables.specs.declared.Partition.{Partition}
use Rattle.tables.specs.declared.Tables.{Tables}
use Rattle.lists.proofs.Images.{get_or-past}
use Rattle.lists.proofs.Tests.{by_test}
use Rattle.lists.proofs.Tidies.{tidy-count}
use Rattle.tables.proofs.Packs.{absent-view, shaped-all, shaped-parts}
use Rattle.protocol.specs.Tables.{Model, partition, queue, partition_count, no_partition as no_part}

pub count-view : (t : Tables) → Sized t → t.count ≤ max_partitions → partition_count (view t) ≡ t.count
unfolding view
count-view t z h = length-map (take t.count t.partitions) view_partition ∙ length-take-le t.count t.partitions (omega (arith, z.partitions))

pub queues-view : (t : Tables) → Sized t → length (view t).queues ≡ queue_count
unfolding view
queues-view t z = length-map t.queues messages_of ∙ z.queues

pub partition-there : (t : Tables) (i : ℕ) → i < t.count → partition (view t) i ≡ view_partition (partition_at t i)
unfolding partition no_part view
partition-there t i h = get_or-map view_partition (take t.count t.partitions) i no_partition ∙ ap view_partition (get_or-take t.count t.partitions i no_partition h)

pub queue-view : (t : Tables) (s r : ℕ) → queue (view t) s r ≡ messages_of (queue_at t (s * max_partitions + r))
unfolding queue view
queue-view t s r = get_or-map messages_of t.queues (s * max_partitions + r) no_queue

-- one that is not there
pub past-view : (m : Model) (i : ℕ) → partition_count m ≤ i → partition m i ≡ no_part
unfolding partition
past-view m i h = get_or-past m.partitions i no_part h

-- also of a partition that is not there
pub partition-view : (t : Tables) → Sized t → shaped t ≡ true → (i : ℕ) → i < max_partitions → partition (view t) i ≡ view_partition (partition_at t i)
partition-view t z e i h =
    let s = shaped-all t z e in
    by_test (ltb i t.count)
    (λ y. partition-there t i (ltb-true _ _ y))
    (λ n.
    let g : t.count ≤ i = ltb-false _ _ n in
    past-view (view t) i (rw (count-view t z s.count) g) ∙ sym (absent-view (partition_at t i) (s.missing i g h)))

-- the counts of shaped tables
pub ranged : (p : Partition) → shaped_partition p ≡ true → Ranged p
ranged p h =
    let s = shaped-parts p h in
    record {
      entries = tidy-count max_entries free_entry p.entries.count p.entries.items s.entries;
      backpointers = tidy-count max_backpointers free_backpointer p.backpointers.count p.backpointers.items s.backpointers;
      records = tidy-count max_records free_record p.records.count p.records.items s.records;
    }
