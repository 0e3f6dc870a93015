-- What `in_order` tests, one after the other, is whether the tables are shaped and in order.
use mathlib.Core.Bool.{Bool, ◌&&◌, true}
use mathlib.Core.List.{List, [], ◌∷◌}
use mathlib.Core.Path.{◌∙◌, ◌≡◌, ap, refl, sym}
use Prim.Native.Nat.{◌%◌, ◌*◌, ◌+◌, ◌/◌, ◌<◌, ◌≤◌, suc, zero, ℕ}
use native.Mathlib.Omega.{arith}
use lib.Dec.{ltb}
use lib.ListN.{drop, get_or}
use lib.Seq.{length-take-le}
use borrow.Author.Tests.{le-leb, le-ltb, leb-true, lt-ltb, ltb-false, ltb-true}
use Rattle.lists.specs.Lists.{all, below, every, tidy}
use Rattle.protocol.specs.Bounds.{max_messages, max_partitions, queue_count}
use Rattle.protocol.specs.Order.{in_order}
use Rattle.tables.specs.Slots.{free_message}
use Rattle.tables.specs.View.{Sized, absent, messages_of, no_partition, no_queue, partition_at, queue_at, shaped, shaped_partition, shaped_queue, view, view_partition}
use Rattle.tables.specs.declared.Tables.{Tables}
use Rattle.partitions.specs.Clauses.{partition_fine}
use Rattle.messages.specs.Clauses.{pair_fine}
use Rattle.order.specs.Clauses.{lasts_of, pair_at, partitions_fine, place_at, place_fine}
use Rattle.lists.proofs.Alls.{past_all}
use Rattle.lists.proofs.Images.{get_or-past}
use Rattle.lists.proofs.Tests.{◌also◌, and_left, and_right, below_at, below_true, bool_same, both_true, by_test, done, every-at, every_of}
use Rattle.lists.proofs.Tidies.{tidy-count}
use Rattle.tables.proofs.Packs.{Shaped, shaped-all}
use Rattle.tables.proofs.Views.{count-view, partition-there, partition-view, past-view, queue-view, queues-view}
use Rattle.order.proofs.Laws.{place-shaped}
use Rattle.order.proofs.Whole.{PairOrder, PartitionOrder, fine_of, order-of, order-whole, pair-order, pair-test, whole-pieces}
use Rattle.protocol.specs.Tables.{Partition as Part, partition, queue, partition_count, no_partition as no_part}

abbrev pub steps : Tables → List Bool
steps t = partitions_fine t.count t.partitions ∷ below queue_count (pair_at t) ∷ []

-- the pair of the queue at k
pair_of : (k : ℕ) → k < queue_count → (k / max_partitions < max_partitions) × (k % max_partitions < max_partitions) × (k / max_partitions * max_partitions + k % max_partitions ≡ k)
pair_of k h = (omega arith, omega arith, omega arith)

module _ (t : Tables) (z : Sized t) (e' : shaped t ≡ true) where
  s : Shaped t
  s = shaped-all t z e'

  lasts-same : (i : ℕ) → get_or (lasts_of t.partitions) i 0 ≡ (partition (view t) i).last
  unfolding no_part
  lasts-same i =
      by_test (ltb i max_partitions)
      (λ y. let h = ltb-true i max_partitions y in go i h ∙ ap (λ (x : Part). x.last) (sym (partition-view t z e' i h)))
      (λ y.
      let h : max_partitions ≤ i = ltb-false i max_partitions y in
      get_or-past (lasts_of t.partitions) i 0 h ∙ ap (λ (x : Part). x.last) (sym (past-view (view t) i (rw (count-view t z s.count) (omega (arith, s.count))))))
    where
      go : (i : ℕ) → i < max_partitions → get_or (lasts_of t.partitions) i 0 ≡ (view_partition (partition_at t i)).last
      go zero l = refl
      go (suc zero) l = refl
      go (suc (suc zero)) l = refl
      go (suc (suc (suc zero))) l = refl
      go (suc (suc (suc (suc k)))) l = absurd (omega arith)

  same_place : (a : ℕ) → a < t.count → partition_fine (partition_count (view t)) (lasts_of t.partitions) (partition_at t a) ≡ partition_fine t.count (lasts_of t.partitions) (partition_at t a)
  same_place a h = rw (count-view t z s.count)

  queue-count : (k : ℕ) → k < queue_count → (queue_at t k).count ≤ max_messages
  queue-count k h = tidy-count max_messages free_message (queue_at t k).count (queue_at t k).items (s.queue k h)

  pub steps-pass : in_order (view t) ≡ true → every (steps t) ≡ true
  unfolding partitions_fine place_at place_fine pair_at
  steps-pass o =
      let w = whole-pieces (view t) o in
      let c = count-view t z s.count in
      let ls = lasts_of t.partitions in
      let place : (a : ℕ) → a < max_partitions → place_at t.count t.partitions a ≡ true =
      λ a h. by_test (ltb a t.count)
      (λ y.
      let l = ltb-true a t.count y in
      let f : PartitionOrder (view t) (view_partition (partition_at t a)) = rw (partition-there t a l) at (w.partition a (rw c l)) in
      rw y (sym (same_place a l) ∙ fine_of (view t) ls lasts-same (partition_at t a) (s.partition a h) f))
      (λ y. rw y (both_true (s.partition a h) (s.missing a (ltb-false a t.count y) h)))
      in
      let pair : (k : ℕ) → k < queue_count → pair_at t k ≡ true =
      λ k h.
      let p = pair_of k h in
      let i = k / max_partitions in
      let j = k % max_partitions in
      let e : queue (view t) i j ≡ messages_of (queue_at t k) = queue-view t i j ∙ rw p.2 refl in
      let b = pair-test (view t) i j (queue_at t k) (queue_at t (j * max_partitions + i)) e (queue-view t j i) (s.queue k h) (queue-count (j * max_partitions + i) (omega (arith, p.0, p.1))) (w.pair i j p.0 p.1) in
      rw (partition-view t z e' i p.0, partition-view t z e' j p.1) at b
      in
      every_of _
      (every_of _ (le-leb _ _ (rw c at w.some) also le-leb _ _ s.count also below_true max_partitions (place_at t.count t.partitions) place also done)
      also below_true queue_count (pair_at t) pair
      also done)

  pub order-passes : every (steps t) ≡ true → in_order (view t) ≡ true
  unfolding partitions_fine place_at place_fine pair_at
  order-passes h =
      let c = count-view t z s.count in
      let ls = lasts_of t.partitions in
      let a = below_at max_partitions (place_at t.count t.partitions) (every-at _ (every-at _ h 0) 2) in
      let fine : (p : ℕ) → p < t.count → PartitionOrder (view t) (partition (view t) p) =
      λ p l.
      let g : p < max_partitions = omega (arith, s.count) in
      let f : partition_fine t.count ls (partition_at t p) ≡ true = rw (lt-ltb p t.count l) at (a p g) in
      rw (partition-there t p l) (order-of (view t) ls lasts-same (partition_at t p) (z.partition p g) (same_place p l ∙ f))
      in
      let pair : (s r : ℕ) → s < max_partitions → r < max_partitions → PairOrder (view t) s r =
      λ x y l g.
      let k = x * max_partitions + y in
      let i : k < queue_count = omega arith in
      let u : k / max_partitions ≡ x = omega arith in
      let v : k % max_partitions ≡ y = omega arith in
      let f = rw (u, v) at (below_at queue_count (pair_at t) (every-at _ h 1) k i) in
      pair-order (view t) x y (queue_at t k) (queue_at t (y * max_partitions + x)) (queue-view t x y) (queue-view t y x) (rw (partition-view t z e' x l, partition-view t z e' y g) f)
      in
      order-whole (view t)
      (record {
        some = rw c (leb-true _ _ (every-at _ (every-at _ h 0) 0));
        count = rw c s.count;
        queues = queues-view t z;
        partition = λ p l. fine p (rw c at l);
        room = λ x y l g.
            let k = x * max_partitions + y in
            let i : k < queue_count = omega arith in
            let n = queue-count k i in
            rw (queue-view t x y, length-take-le (queue_at t k).count (queue_at t k).items (omega (arith, z.queue k i, n))) n;
        pair = pair;
      })

shape-passes : (t : Tables) → Sized t → every (steps t) ≡ true → shaped t ≡ true
unfolding shaped tidy partitions_fine place_at place_fine pair_at pair_fine
shape-passes t z h =
    let a = below_at max_partitions (place_at t.count t.partitions) (every-at _ (every-at _ h 0) 2) in
    let b : all absent (drop t.count t.partitions) ≡ true =
    past_all absent t.count t.partitions no_partition
    (λ i l g.
    let k : i < max_partitions = omega (arith, z.partitions) in
    and_right (shaped_partition (partition_at t i)) _ (rw (le-ltb i t.count l) at (a i k)))
    in
    let c : all shaped_partition (drop 0 t.partitions) ≡ true = past_all shaped_partition 0 t.partitions no_partition (λ i l g. place-shaped t.count (lasts_of t.partitions) i (partition_at t i) (a i (omega (arith, z.partitions)))) in
    let d : all shaped_queue (drop 0 t.queues) ≡ true = past_all shaped_queue 0 t.queues no_queue (λ k l g. every-at _ (below_at queue_count (pair_at t) (every-at _ h 1) k (omega (arith, z.queues))) 0) in
    every_of _ (both_true (every-at _ (every-at _ h 0) 1) b also c also d also done)

pub decided : (t : Tables) → Sized t → every (steps t) ≡ (shaped t && in_order (view t))
decided t z =
    bool_same (every (steps t)) (shaped t && in_order (view t))
    (λ y. let e = shape-passes t z y in both_true e (order-passes t z e y))
    (λ y. steps-pass t z (and_left _ _ y) (and_right (shaped t) _ y))
