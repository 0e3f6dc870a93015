-- The stored form of a model whose sizes are within bounds is shaped.
use mathlib.Core.Bool.{true}
use mathlib.Core.List.{[], map}
use mathlib.Core.Path.{◌≡◌, refl}
use Prim.Native.Nat.{◌%◌, ◌*◌, ◌+◌, ◌/◌, ◌≤◌}
use native.Mathlib.Omega.{arith}
use lib.ListN.{get_or, length, length-map}
use borrow.Author.Tests.{eqb-true, leb-true}
use Rattle.lists.specs.Lists.{all, every, pad, tidy}
use Rattle.names.specs.Names.{zero_name}
use Rattle.protocol.specs.Bounds.{max_backpointers, max_entries, max_messages, max_partitions, max_records, queue_count}
use Rattle.protocol.specs.Order.{o1, in_order, partition_in_range}
use Rattle.tables.specs.Slots.{free_backpointer, free_entry, free_message, free_record, zero_backpointer, zero_entry, zero_message, zero_record}
use Rattle.tables.specs.View.{absent, pack, pack_partition, pack_queue, shaped, shaped_partition, shaped_queue, zero_partition}
use Rattle.lists.proofs.Alls.{all_map, all-pad}
use Rattle.lists.proofs.Tests.{◌also◌, below_at, both_true, done, every-at, every_of}
use Rattle.lists.proofs.Tidies.{pad-tidy}
use Rattle.names.proofs.Laws.{name-same}
use Rattle.protocol.specs.Tables.{Partition as Part, Model, partition, queue, no_partition as no_part}

zero-entry-free : free_entry zero_entry ≡ true
unfolding free_entry zero_entry
zero-entry-free = name-same zero_name

zero-backpointer-free : free_backpointer zero_backpointer ≡ true
unfolding free_backpointer zero_backpointer
zero-backpointer-free = name-same zero_name

zero-record-free : free_record zero_record ≡ true
unfolding free_record zero_record
zero-record-free = both_true (name-same zero_name) refl

zero-message-free : free_message zero_message ≡ true
unfolding free_message zero_message
zero-message-free = both_true (name-same zero_name) refl

partition-shaped : (x : Part) → length x.entries ≤ max_entries → length x.backpointers ≤ max_backpointers → length x.records ≤ max_records → shaped_partition (pack_partition x) ≡ true
unfolding shaped_partition
partition-shaped x a b c =
    every_of _
    (pad-tidy max_entries free_entry zero_entry zero-entry-free x.entries a
    also pad-tidy max_backpointers free_backpointer zero_backpointer zero-backpointer-free x.backpointers b
    also pad-tidy max_records free_record zero_record zero-record-free x.records c
    also done)

zero-shaped : shaped_partition zero_partition ≡ true
unfolding zero_partition no_part
zero-shaped = partition-shaped no_part (omega arith) (omega arith) (omega arith)

zero-absent : absent zero_partition ≡ true
unfolding absent zero_partition no_part every
zero-absent = refl

pub pack-shaped : (m : Model) → o1 m ≡ true → shaped (pack m) ≡ true
unfolding shaped pack o1 partition_in_range partition queue
pack-shaped m h =
    let a = every-at _ h in
    let n : length m.partitions ≤ max_partitions = leb-true _ _ (a 1) in
    let q : length m.queues ≡ queue_count = eqb-true _ _ (a 2) in
    let l = map pack_partition m.partitions in
    let e : length l ≡ length m.partitions = length-map m.partitions pack_partition in
    let t : tidy max_partitions absent (length m.partitions) (pad max_partitions zero_partition l) ≡ true =
    rw (← e) (pad-tidy max_partitions absent zero_partition zero-absent l (rw e n))
    in
    let p : all shaped_partition l ≡ true =
    all_map shaped_partition pack_partition no_part m.partitions
    (λ i k.
    let x = get_or m.partitions i no_part in
    let r = every-at _ (below_at (length m.partitions) _ (a 3) i k) in
    partition-shaped x (leb-true _ _ (r 1)) (leb-true _ _ (r 2)) (leb-true _ _ (r 3)))
    in
    let u : all shaped_queue (map pack_queue m.queues) ≡ true =
    all_map shaped_queue pack_queue [] m.queues
    (λ i k.
    let v : i / max_partitions * max_partitions + i % max_partitions ≡ i = omega arith in
    let w : length (get_or m.queues (i / max_partitions * max_partitions + i % max_partitions) []) ≤ max_messages =
    leb-true _ _ (below_at max_partitions _ (below_at max_partitions _ (a 4) (i / max_partitions) (omega arith)) (i % max_partitions) (omega arith))
    in
    pad-tidy max_messages free_message zero_message zero-message-free (get_or m.queues i []) (rw v at w))
    in
    every_of _ (t also all-pad shaped_partition max_partitions zero_partition l p zero-shaped also u also done)

pub order-shaped : (m : Model) → in_order m ≡ true → shaped (pack m) ≡ true
unfolding in_order
order-shaped m o = pack-shaped m (every-at _ o 0)
