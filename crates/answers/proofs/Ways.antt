-- The ways through an event: what tables that passed the test hold, a refusal, a passed test, an acceptance.
use mathlib.Core.Bool.{Bool, ◌&&◌, false, true}
use mathlib.Core.Path.{◌∙◌, ◌≡◌, ap, refl, sym}
use Prim.Native.Nat.{◌<◌, ◌≤◌, ℕ}
use native.Mathlib.Omega.{arith}
use lib.Dec.{ltb}
use lib.ListN.{length}
use lib.Seq.{length-take-le}
use borrow.Author.Tests.{leb-true, lt-ltb, ltb-true}
use Rattle.protocol.specs.Answers.{Outcome, accept, check}
use Rattle.protocol.specs.Bounds.{max_entries, max_partitions, max_records}
use Rattle.protocol.specs.Elements.{is_accepted}
use Rattle.protocol.specs.Order.{o1, in_order}
use Rattle.protocol.specs.Tables.{Model, is_partition, partition, partition_count, Partition as Part}
use Rattle.protocol.specs.declared.Refusal.{Refusal}
use Rattle.protocol.specs.declared.Refusal.TheVariants.{OutOfOrder}
use Rattle.protocol.specs.declared.Reply.{Reply}
use Rattle.tables.specs.View.{Ranged, Sized, SizedPartition, Stored, pack, partition_at, shaped, view, view_partition}
use Rattle.tables.specs.declared.Partition.{Partition}
use Rattle.tables.specs.declared.Tables.{Tables}
use Rattle.answers.specs.Called.{Answered, Ready, accepted_with, refused_with, stored, tested}
use Rattle.lists.proofs.Tests.{and_left, and_right, every-at}
use Rattle.tables.proofs.Packs.{pack-view, shaped-all}
use Rattle.tables.proofs.Views.{count-view, partition-there, ranged}

-- ---- tables that passed the test

pub ready-count : (t : Tables) → Sized t → Ready t → t.count ≤ max_partitions
ready-count t z r = (shaped-all t z r.shaped).count

pub ready-stored : (t : Tables) (p : ℕ) → Sized t → Ready t → p < t.count → Stored t p
ready-stored t p z r h = record { packed = pack-view t z r.shaped; count = ready-count t z r; inside = h }

pub ready-view : (t : Tables) → Sized t → Ready t → partition_count (view t) ≡ t.count
ready-view t z r = count-view t z (ready-count t z r)

-- there is a first partition
pub ready-some : (t : Tables) → Sized t → Ready t → 0 < t.count
unfolding in_order o1
ready-some t z r =
    let e = ready-view t z r in
    let h : 1 ≤ partition_count (view t) = leb-true _ _ (every-at _ (every-at _ r.order 0) 0) in
    omega arith

pub read-four : (t : Tables) (p : ℕ) → Sized t → Ready t → p < t.count → p < max_partitions
read-four t p z r h = let a = ready-count t z r in omega arith

-- whether partition p is there; b is the test
pub ready-test : (t : Tables) (p : ℕ) → Sized t → Ready t → (b : Bool) → b ≡ ltb p t.count → is_partition (view t) p ≡ b
ready-test t p z r b e = rw (ready-view t z r) (sym e)

pub ready-there : (t : Tables) (p : ℕ) → Sized t → Ready t → p < t.count → is_partition (view t) p ≡ true
ready-there t p z r h = ready-test t p z r true (sym (lt-ltb _ _ h))

-- the partition is there, by the test that was made
module _ (t : Tables) (z : Sized t) (r : Ready t) (p : ℕ) (b : Bool) (e : b ≡ ltb p t.count) where
  pub now-there : b ≡ true → p < t.count
  now-there f = ltb-true _ _ (sym e ∙ f)

  pub now-four : b ≡ true → p < max_partitions
  now-four f = read-four t p z r (now-there f)

-- of the partition x that was read at p
module _ (t : Tables) (p : ℕ) (z : Sized t) (r : Ready t) (h : p < t.count) (x : Partition) (e : x ≡ partition_at t p) where
  pub read_view : partition (view t) p ≡ view_partition x
  read_view = partition-there t p h ∙ ap view_partition (sym e)

  pub read_up : (partition (view t) p).up ≡ x.up
  read_up = ap (λ (y : Part). y.up) read_view

  pub read-ranged : Ranged x
  read-ranged = rw e (ranged (partition_at t p) ((shaped-all t z r.shaped).partition p (read-four t p z r h)))

  pub read-entries : x.entries.count ≤ max_entries
  read-entries = read-ranged.entries

  pub read-records : x.records.count ≤ max_records
  read-records = read-ranged.records

  pub read-sized : SizedPartition x
  read-sized = rw e (z.partition p (read-four t p z r h))

  pub read_count : length (partition (view t) p).records ≡ x.records.count
  read_count = rw read_view (length-take-le x.records.count x.records.items (omega (arith, read-records, read-sized.records)))

-- ---- a refusal, and a passed test

pub refuses : (t : Tables) (p : Bool) (why : Refusal) (m : Model) (o : Outcome) → is_accepted why ≡ false → p ≡ false → refused_with t why ≡ stored t (check p why m o)
unfolding stored check
refuses t p why m o n e = rw (e, n) refl

pub passes : (t : Tables) (p : Bool) (why : Refusal) (m : Model) (o : Outcome) → p ≡ true → stored t o ≡ stored t (check p why m o)
unfolding check
passes t p why m o e = rw e refl

pub accepts : (t u : Tables) (n : ℕ) (r : Reply) (m : Model) → u ≡ pack m → accepted_with u n r ≡ stored t (accept n r m)
unfolding stored
accepts t u n r m e = rw e refl

-- ---- the test of the order comes first

pub test-fails : (t : Tables) (b : Bool) (o : Outcome) (a : Answered) → b ≡ (shaped t && in_order (view t)) → b ≡ false → a ≡ refused_with t OutOfOrder → a ≡ tested t o
unfolding tested stored
test-fails t b o a e f h = h ∙ rw (← e, f) refl

pub test-passes : (t : Tables) (b : Bool) (o : Outcome) (a : Answered) → b ≡ (shaped t && in_order (view t)) → b ≡ true → a ≡ stored t o → a ≡ tested t o
unfolding tested
test-passes t b o a e f h = h ∙ rw (← e, f) refl

pub now-ready : (t : Tables) (b : Bool) → b ≡ (shaped t && in_order (view t)) → b ≡ true → Ready t
now-ready t b e f = record { shaped = and_left _ _ (sym e ∙ f); order = and_right (shaped t) _ (sym e ∙ f) }
