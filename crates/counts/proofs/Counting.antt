-- What `S` and `Q` count, by the stored counts: a total is a sum over places, and the square has each queue's length.
use mathlib.Core.List.{List, [], ◌∷◌}
use mathlib.Core.Path.{◌∙◌, ◌≡◌, ap, refl, sym}
use Prim.Native.Nat.{◌*◌, ◌+◌, ◌<◌, ◌≤◌, min, suc, zero, ℕ}
use native.Mathlib.Numerals.{add-one}
use native.Mathlib.Omega.{arith}
use lib.Dec.{eqb}
use lib.ListN.{get_or-append, get_or-map, get_or, length, length-map, length-take, take}
use lib.Seq.{get_or-take, get_or_at}
use borrow.Author.Tests.{eqb-false, eqb-true}
use Rattle.lists.specs.Lists.{each, total}
use Rattle.lists.proofs.Sums.{sum, total-sum}
use Rattle.lists.proofs.Tests.{by_test}
use Rattle.protocol.specs.Bounds.{max_backpointers, max_entries, max_messages, max_partitions, max_records, queue_count}
use Rattle.protocol.specs.Tables.{Model, Partition as Part, no_partition as no_part, partition, partition_count, queue, totals}
use Rattle.protocol.specs.declared.Message.{Message}
use Rattle.tables.specs.View.{Sized, messages_of, no_partition, no_queue, partition_at, view, view_partition}
use Rattle.tables.specs.declared.Partition.{Partition}
use Rattle.tables.specs.declared.Tables.{Tables}
use Rattle.tables.proofs.Views.{partition-there, queues-view}
use Rattle.rehearsal.specs.Answers.{row, rows, square_of}
use Rattle.counts.specs.Counts.{Small, Sums, length_at, lengths, lengths_from, plus_partition, sums_of}
use Rattle.rehearsal.specs.Rehearsal.{square}
use Rattle.texts.proofs.Squares.{each-length}

-- ---- counts of arrays

counted : {A : Type 0} (n k : ℕ) (l : List A) → length l ≡ k → length (take n l) ≡ min n k
counted n k l e = length-take n l ∙ ap (min n) e

min-most : (n k : ℕ) → min n k ≤ k
min-most n k = omega arith

pub partitions-counted : (t : Tables) → Sized t → partition_count (view t) ≡ min t.count max_partitions
unfolding view
partitions-counted t z = length-map (take t.count t.partitions) view_partition ∙ counted t.count max_partitions t.partitions z.partitions

messages-counted : (t : Tables) (k : ℕ) → Sized t → k < queue_count → length (get_or (view t).queues k []) ≡ length_at t k
unfolding view
messages-counted t k z h = ap (λ (l : List Message). length l) (get_or-map messages_of t.queues k no_queue) ∙ counted _ max_messages _ (z.queue k h)

-- ---- sums

sum_same : (k : ℕ) (f g : ℕ → ℕ) → ((i : ℕ) → i < k → f i ≡ g i) → sum k f ≡ sum k g
unfolding sum
sum_same zero f g h = refl
sum_same (suc k) f g h = let a = sum_same k f g (λ i l. h i (omega arith)) in let b = h k (omega arith) in omega arith

sum-most : (k b : ℕ) (f : ℕ → ℕ) → ((i : ℕ) → f i ≤ b) → sum k f ≤ k * b
unfolding sum
sum-most zero b f h = omega arith
sum-most (suc k) b f h = let a = sum-most k b f h in let c = h k in omega arith

sum_more : (k : ℕ) (f : ℕ → ℕ) → sum (k + 1) f ≡ sum k f + f k
unfolding sum
sum_more k f = rw (add-one k) refl

-- ---- `partition_sums`

module _ (t : Tables) where
  abbrev entries_at : ℕ → ℕ
  entries_at i = min (partition_at t i).entries.count max_entries

  abbrev backpointers_at : ℕ → ℕ
  backpointers_at i = min (partition_at t i).backpointers.count max_backpointers

  abbrev records_at : ℕ → ℕ
  records_at i = min (partition_at t i).records.count max_records

  -- the first i partitions are in the sums
  pub record Summing (n : ℕ) (x : Sums) (i : ℕ) : Type 0 where
    pub so_far : x ≡ record { entries = sum i entries_at; backpointers = sum i backpointers_at; records = sum i records_at; messages = n }

  pub sum-start : (n : ℕ) → Summing n (record { entries = 0; backpointers = 0; records = 0; messages = n }) 0
  unfolding sum
  sum-start n = record { so_far = refl }

  -- the partitions that there are: the first k
  module _ (n : ℕ) (x : Sums) (i : ℕ) (w : Summing n x i) (k : ℕ) (e : k ≡ min t.count max_partitions) (h : i < length (take k t.partitions)) where
    abbrev there : Partition
    there = get_or (take k t.partitions) i no_partition

    below : i < k
    below = omega (arith, length-take k t.partitions)

    pub sum-small : Small x
    sum-small =
        let l = below in
        let a = sum-most i max_entries entries_at (λ k. min-most _ max_entries) in
        let b = sum-most i max_backpointers backpointers_at (λ k. min-most _ max_backpointers) in
        let c = sum-most i max_records records_at (λ k. min-most _ max_records) in
        rw w.so_far (record { entries = omega arith; backpointers = omega arith; records = omega arith })

    pub sum-turn : (y : Sums) → y ≡ plus_partition x there → Summing n y (i + 1)
    sum-turn y f =
        let p : there ≡ partition_at t i = get_or-take k t.partitions i no_partition below in
        record { so_far = f ∙ rw (p, w.so_far, sum_more i entries_at, sum_more i backpointers_at, sum_more i records_at) refl }

  -- a count of each partition that is there, summed
  module _ (z : Sized t) (f : Part → ℕ) (none : f no_part ≡ 0) (g : ℕ → ℕ) where
    total-is : ((i : ℕ) → i < t.count → i < max_partitions → f (view_partition (partition_at t i)) ≡ g i)
        → sum (min t.count max_partitions) g ≡ total f (view t).partitions
    unfolding partition
    total-is h =
        let c = partitions-counted t z in
        sum_same (min t.count max_partitions) g (λ i. f (partition (view t) i))
        (λ i l. sym (ap f (partition-there t i (omega arith)) ∙ h i (omega arith) (omega arith)))
        ∙ total-sum f no_part none (view t).partitions (min t.count max_partitions) (omega arith)

  pub sum_done : (n : ℕ) (x : Sums) (i : ℕ) → Summing n x i → Sized t → (k : ℕ) → k ≡ min t.count max_partitions
      → i ≤ length (take k t.partitions) → length (take k t.partitions) ≤ i → n ≡ (totals (view t)).messages → x ≡ sums_of (totals (view t))
  unfolding no_part
  sum_done n x i w z k e h g m =
      let q : i ≡ min t.count max_partitions = omega (arith, length-take k t.partitions, z.partitions) in
      let a = total-is z (λ (p : Part). length p.entries) refl entries_at (λ k l b. counted _ max_entries _ (z.partition k b).entries) in
      let b =
      total-is z (λ (p : Part). length p.backpointers) refl backpointers_at (λ k l b. counted _ max_backpointers _ (z.partition k b).backpointers)
      in
      let c = total-is z (λ (p : Part). length p.records) refl records_at (λ k l b. counted _ max_records _ (z.partition k b).records) in
      w.so_far ∙ rw q (λ j. record { entries = a j; backpointers = b j; records = c j; messages = m j })

  -- ---- `messages_in`

  -- the first i queues are in the sum
  pub record Mailing (n i : ℕ) : Type 0 where
    pub so_far : n ≡ sum i (length_at t)

  pub mail-start : Mailing 0 0
  unfolding sum
  mail-start = record { so_far = refl }

  module _ (n i : ℕ) (w : Mailing n i) where
    pub mail-turn : (k : ℕ) → k ≡ length_at t i → Mailing (n + k) (i + 1)
    mail-turn k e = record { so_far = rw (e, w.so_far) (sym (sum_more i (length_at t))) }

    pub mail-done : Sized t → i ≤ queue_count → queue_count ≤ i → n ≡ (totals (view t)).messages
    mail-done z h g =
        let q : i ≡ queue_count = omega arith in
        let a = queues-view t z in
        w.so_far ∙ rw q (
        sum_same queue_count (length_at t) (λ k. length (get_or (view t).queues k []))
        (λ k l. sym (messages-counted t k z l))
        ∙ total-sum (λ (l : List Message). length l) [] refl (view t).queues queue_count (omega arith))

pub ruleset summing = (sum-start, sum-small, sum-turn, sum_done)

pub ruleset mailing = (mail-start, mail-turn, mail-done)

-- ---- the square

-- the f of each number below n stands at its place
each_read : {A : Type 0} (n : ℕ) (f : ℕ → A) (d : A) (i : ℕ) → i < n → get_or (each n (λ i. f i ∷ [])) i d ≡ f i
unfolding each
each_read zero f d i h = absurd (omega arith)
each_read (suc n) f d i h =
    by_test (eqb i n)
    (λ t. rw (eqb-true i n t) (get_or_at (each n (λ i. f i ∷ [])) (f n) [] d n (each-length n f)))
    (λ t.
    let ne = eqb-false i n t in
    let l : i < n = omega arith in
    get_or-append (each n (λ i. f i ∷ [])) (f n ∷ []) d i (rw (each-length n f) l) ∙ each_read n f d i l)

each_same : {A : Type 0} (n : ℕ) (f g : ℕ → List A) → ((i : ℕ) → i < n → f i ≡ g i) → each n f ≡ each n g
unfolding each
each_same zero f g h = refl
each_same (suc n) f g h = rw (each_same n f g (λ i l. h i (omega arith)), h n (omega arith)) refl

rows_same : (n : ℕ) (f g : ℕ → ℕ → ℕ) → ((s r : ℕ) → s < n → r < n → f s r ≡ g s r) → square_of n f ≡ square_of n g
unfolding row rows
rows_same n f g h =
    each_same n (λ s. row n (f s)) (λ s. row n (g s))
    (λ s l. each_same n (λ r. f s r ∷ []) (λ r. g s r ∷ []) (λ r k. ap (λ (x : ℕ). x ∷ []) (h s r l k)))

lengths_read : (m : Model) (s r : ℕ) → s < max_partitions → r < max_partitions → get_or (get_or (lengths m) s []) r 0 ≡ length (queue m s r)
unfolding lengths row
lengths_read m s r h k =
    ap (λ (l : List ℕ). get_or l r 0) (each_read max_partitions (λ s. row max_partitions (λ r. length (queue m s r))) [] s h)
    ∙ each_read max_partitions (λ r. length (queue m s r)) 0 r k

-- the square of the partitions that there are
pub square-counted : (t : Tables) (ls : List (List ℕ)) → Sized t → ls ≡ lengths (view t)
    → square_of (min t.count max_partitions) (λ s k. get_or (get_or ls s []) k 0) ≡ square (view t)
square-counted t ls z e =
    rw (e, partitions-counted t z)
    (rows_same (min t.count max_partitions) (λ s k. get_or (get_or (lengths (view t)) s []) k 0) (λ s r. length (queue (view t) s r))
    (λ s r h k. lengths_read (view t) s r (omega arith) (omega arith)))

row-counted : (t : Tables) (s : ℕ) → Sized t → s < max_partitions → lengths_from t s ≡ row max_partitions (λ r. length (queue (view t) s r))
unfolding lengths_from row each queue
row-counted t s z h =
    let first : s * max_partitions + 0 ≡ s * max_partitions = omega arith in
    let a = ap (length_at t) (sym first) ∙ sym (messages-counted t (s * max_partitions + 0) z (omega arith)) in
    let b = messages-counted t (s * max_partitions + 1) z (omega arith) in
    let c = messages-counted t (s * max_partitions + 2) z (omega arith) in
    let d = messages-counted t (s * max_partitions + 3) z (omega arith) in
    λ i. a i ∷ sym b i ∷ sym c i ∷ sym d i ∷ []

-- `lengths_of`
pub lengths-are : (t : Tables) (a b c d : List ℕ) → Sized t
    → a ≡ lengths_from t 0 → b ≡ lengths_from t 1 → c ≡ lengths_from t 2 → d ≡ lengths_from t 3 → a ∷ b ∷ c ∷ d ∷ [] ≡ lengths (view t)
unfolding lengths each
lengths-are t a b c d z ea eb ec ed =
    rw (ea, eb, ec, ed, row-counted t 0 z (omega arith), row-counted t 1 z (omega arith), row-counted t 2 z (omega arith), row-counted t 3 z (omega arith)) refl
