-- What a cut or a crash leaves of tables that passed the test, in plain variables.
use mathlib.Core.Bool.{Bool, and-false, and-true, false, true}
use mathlib.Core.List.{List, [], map}
use mathlib.Core.Path.{◌∙◌, ◌≡◌, ap, refl, sym}
use Prim.Native.Nat.{◌%◌, ◌+◌, ◌/◌, ◌<◌, ◌≤◌, ℕ}
use native.Mathlib.Omega.{arith}
use borrow.Author.Tests.{eq-eqb}
use lib.ListN.{get_or, length, length-map, set}
use Rattle.lists.specs.Lists.{map_from, map_if, pad, pick}
use Rattle.protocol.specs.Bounds.{max_partitions, max_records, queue_count}
use Rattle.protocol.specs.Faults.{drained, falls_with, lose, relapsed, touches}
use Rattle.protocol.specs.Tables.{Model, in_stage, no_partition as no_part, partition, set_partition, set_up, with_up, Partition as Part}
use Rattle.protocol.specs.declared.Message.{Message}
use Rattle.protocol.specs.declared.Record.{Record}
use Rattle.protocol.specs.declared.Stage.TheVariants.{Ready as ReadyStage}
use Rattle.tables.specs.Slots.{no_record, zero_record}
use Rattle.tables.specs.View.{Sized, no_partition, no_queue, pack, pack_partition, pack_queue, pack_records, partition_at, records_of, view, view_partition, zero_partition, Records, Queue}
use Rattle.tables.specs.declared.Partition.{Partition}
use Rattle.tables.specs.declared.Tables.{Tables}
use Rattle.answers.specs.Called.{Ready}
use Rattle.losses.specs.Lost.{Loss, empties_of, lost, partition_after, queue_after, relapses_of}
use Rattle.losses.specs.declared.Loss.TheVariants.{Crash, Cut}
use Rattle.lists.proofs.Keep.{length-map_from, length-map_if}
use Rattle.tables.proofs.Packs.{pack-view, partition-pack, partition-unpack, shaped-all}
use Rattle.lists.proofs.Mapped.{Mapping, map-map_from, map_from-one, map_if-from, mapping-all, mapping-end, mapping-keep, mapping-next, mapping-start, mapping-turn}
use Rattle.answers.proofs.Ways.{read-four, ready-count, ready-view}

-- ---- what is in its stored form

pub place-packed : (t : Tables) → Sized t → Ready t → (i : ℕ) (x : Partition) → i < t.count → x ≡ partition_at t i → pack_partition (view_partition x) ≡ x
place-packed t z r i x h e =
    let g = read-four t i z r h in
    rw e (partition-pack (partition_at t i) (z.partition i g) ((shaped-all t z r.shaped).partition i g))

-- what is lost, place by place
lost-parts : (loss : Loss) (m : Model) → lost loss m ≡ record { partitions = map_from (partition_after loss) 0 m.partitions; queues = map_from (drained (empties_of loss)) 0 m.queues }
unfolding lost lose set_up set_partition partition
lost-parts (Cut a b) m = refl
lost-parts (Crash p) m =
    let e : map_from (partition_after (Crash p)) 0 m.partitions ≡ set (map_from (relapsed (falls_with p)) 0 m.partitions) p (with_up false (get_or (map_from (relapsed (falls_with p)) 0 m.partitions) p no_part)) =
    map_from-one (relapsed (falls_with p)) (partition_after (Crash p)) p (λ i x f. rw (f, and-true x.up) refl) (with_up false) no_part
    (λ x. rw (eq-eqb p p refl, and-false x.up) refl) m.partitions 0 p (omega arith)
    in
    λ j. record { partitions = sym e j; queues = map_from (drained (touches p)) 0 m.queues }

module _ (loss : Loss) where
  -- ---- one partition's records

  abbrev pub leaves : ℕ → ℕ → Record → Record
  leaves p i r = pick (relapses_of loss p r) (in_stage ReadyStage r) r

  pub records-left : (p : ℕ) (l : Records) → pack_records (records_of l) ≡ l → (i : ℕ) (ys : List Record) → Mapping (leaves p) l.items i ys → i ≤ l.count → l.count ≤ i
      → record { count = l.count; items = ys } ≡ pack_records (map_if (relapses_of loss p) (in_stage ReadyStage) (records_of l))
  records-left p l e i ys s h g =
      let k : List Record = map_if (relapses_of loss p) (in_stage ReadyStage) (records_of l) in
      let n : length (records_of l) ≡ l.count = ap (λ (y : Records). y.count) e in
      let w : l.items ≡ pad max_records zero_record (records_of l) = ap (λ (y : Records). y.items) (sym e) in
      let a : l.count ≡ length k = sym (length-map_if (relapses_of loss p) (in_stage ReadyStage) (records_of l) ∙ n) in
      let b : ys ≡ pad max_records zero_record k =
      mapping-end (leaves p) l.items max_records l.count zero_record (records_of l) i ys w n s h g
      ∙ ap (pad max_records zero_record) (map_if-from (relapses_of loss p) (in_stage ReadyStage) (records_of l) 0)
      in
      λ j. record { count = a j; items = b j }

  pub records-turn : (p : ℕ) (l : Records) (i : ℕ) (ys : List Record) (x v : Record) → length l.items ≡ max_records
      → Mapping (leaves p) l.items i ys → i < l.count → l.count ≤ max_records → x ≡ get_or l.items i no_record
      → v ≡ pick (relapses_of loss p x) (in_stage ReadyStage x) x → Mapping (leaves p) l.items (i + 1) (set ys i v)
  records-turn p l i ys x v n s h g e c = mapping-turn (leaves p) l.items no_record i ys s (omega arith) x v e c

  -- ---- all partitions, and all queues

  abbrev pub stored_after : ℕ → Partition → Partition
  stored_after p x = pack_partition (partition_after loss p (view_partition x))

  emptied : (b : Bool) (l : List Message) → pick b (pack_queue []) (pack_queue l) ≡ pack_queue (pick b [] l)
  emptied true l = refl
  emptied false l = refl

  module _ (t : Tables) (z : Sized t) (r : Ready t) where
    packed : pack (view t) ≡ t
    packed = pack-view t z r.shaped

    -- the partitions, as they were handed over
    module _ (xs : List Partition) (k : xs ≡ t.partitions) where
      module _ (i : ℕ) (ys : List Partition) (s : Mapping stored_after xs i ys) (h : i < t.count) (x : Partition) (e : x ≡ get_or ys i no_partition) where
        inside : i < length xs
        inside = let g = ready-count t z r in rw k (omega (arith, z.partitions))

        pub place-left : x ≡ partition_at t i
        place-left = e ∙ mapping-next stored_after xs no_partition i ys s inside ∙ rw k refl

        pub partitions-turn : (v : Partition) → v ≡ stored_after i x → Mapping stored_after xs (i + 1) (set ys i v)
        partitions-turn v c = mapping-turn stored_after xs no_partition i ys s inside x v (place-left ∙ rw k refl) c

      pub partitions-left : (i : ℕ) (ys : List Partition) → Mapping stored_after xs i ys → i ≤ t.count → t.count ≤ i
          → ys ≡ pad max_partitions zero_partition (map pack_partition (map_from (partition_after loss) 0 (view t).partitions))
      unfolding pack
      partitions-left i ys s h g =
          let l : List Partition = map pack_partition (view t).partitions in
          let n : length l ≡ t.count = length-map (view t).partitions pack_partition ∙ ready-view t z r in
          let w : xs ≡ pad max_partitions zero_partition l = k ∙ ap (λ (u : Tables). u.partitions) (sym packed) in
          mapping-end stored_after xs max_partitions t.count zero_partition l i ys w n s h g
          ∙ ap (pad max_partitions zero_partition)
          (map-map_from pack_partition (partition_after loss) stored_after
          (λ p x. ap (λ (y : Part). pack_partition (partition_after loss p y)) (partition-unpack x)) (view t).partitions 0)

    queues-left : map_from (queue_after loss) 0 t.queues ≡ map pack_queue (map_from (drained (empties_of loss)) 0 (view t).queues)
    unfolding pack
    queues-left =
        let w : t.queues ≡ map pack_queue (view t).queues = ap (λ (u : Tables). u.queues) (sym packed) in
        ap (map_from (queue_after loss) 0) w
        ∙ map-map_from pack_queue (drained (empties_of loss)) (queue_after loss) (λ j l. emptied (empties_of loss (j / max_partitions) (j % max_partitions)) l) (view t).queues 0

    pub tables-left : (ps : List Partition) (qs : List Queue)
        → ps ≡ pad max_partitions zero_partition (map pack_partition (map_from (partition_after loss) 0 (view t).partitions))
        → qs ≡ map_from (queue_after loss) 0 t.queues → record { count = t.count; partitions = ps; queues = qs } ≡ pack (lost loss (view t))
    unfolding pack
    tables-left ps qs e f =
        let n : t.count ≡ length (map_from (partition_after loss) 0 (view t).partitions) =
        sym (length-map_from (partition_after loss) (view t).partitions 0 ∙ ready-view t z r)
        in
        (λ j. record { count = n j; partitions = e j; queues = (f ∙ queues-left) j }) ∙ ap pack (sym (lost-parts loss (view t)))

  -- the queue at place i empties, or not; b is the test
  module _ (xs : List Queue) (n : length xs ≡ queue_count) where
    pub queues-end : (i : ℕ) (ys : List Queue) → Mapping (queue_after loss) xs i ys → queue_count ≤ i → ys ≡ map_from (queue_after loss) 0 xs
    queues-end i ys s h = mapping-all (queue_after loss) xs i ys s (rw n h)

    module _ (i : ℕ) (ys : List Queue) (s : Mapping (queue_after loss) xs i ys) (h : i < queue_count) (b : Bool) (e : b ≡ empties_of loss (i / max_partitions) (i % max_partitions)) where
      among : i < length xs
      among = rw n h

      pub queue-empties : (q : Queue) (l : List Queue) → b ≡ true → q ≡ pack_queue [] → l ≡ set ys i q → Mapping (queue_after loss) xs (i + 1) l
      queue-empties q l f g w = rw w (mapping-turn (queue_after loss) xs no_queue i ys s among (get_or xs i no_queue) q refl (g ∙ rw (← e, f) refl))

      pub queue-stays : (l : List Queue) → b ≡ false → l ≡ ys → Mapping (queue_after loss) xs (i + 1) l
      queue-stays l f w = rw w (mapping-keep (queue_after loss) xs no_queue i ys s among (rw (← e, f) refl))

pub ruleset records-lost = (mapping-start, records-turn, records-left)

pub ruleset partitions-lost = (mapping-start, place-left, place-packed, partitions-turn, partitions-left)

pub ruleset queues-lost = (mapping-start, queues-end)
