-- What a cut, a crash and a fresh start leave.
use mathlib.Core.Bool.{Bool, ◌&&◌, ◌||◌, and_comm, false, or_comm, or-true, true}
use mathlib.Core.List.{List, [], ◌∷◌}
use mathlib.Core.Logic.{◌⊎◌, inl, inr}
use mathlib.Core.Path.{◌∙◌, ◌≡◌, ap, ap₂, refl, sym}
use Prim.Native.Nat.{◌%◌, ◌*◌, ◌+◌, ◌/◌, ◌<◌, ◌≤◌, suc, zero, ℕ}
use native.Mathlib.Nat.{zero-add}
use native.Mathlib.Omega.{arith}
use lib.Dec.{eqb, lit≤}
use lib.ListN.{get_or, length, length-replicate, replicate}
use borrow.Author.Tests.{eqb-true}
use Rattle.lists.specs.Lists.{keep, map_if, one, pick}
use Rattle.protocol.specs.Bounds.{max_partitions, queue_count}
use Rattle.protocol.specs.Demands.{backpointer_bears}
use Rattle.protocol.specs.Elements.{Backpointer, Entry, Message, Ready, Record, Request}
use Rattle.protocol.specs.Faults.{between, drained, falls_with, lose, relapsed, touches}
use Rattle.protocol.specs.Tables.{Model, Partition, claimed, entry_bears, fresh, fresh_partition, in_stage, no_partition, partition, queue, record_bears}
use Rattle.lists.proofs.Keep.{get_or-map_from, keep-map_if, length-keep-map_if, length-map_from, none_of}
use Rattle.lists.proofs.Tests.{and_left, and_right, by_test, eqb_same, no_true}
use Rattle.protocol.proofs.Content.{AtRest, Blank, Content, Mail, home, letters, message_at, out, silent, unready}
use Rattle.protocol.proofs.Look.{Shape}
use Rattle.protocol.proofs.Neat.{Neat}
use Rattle.protocol.proofs.Numbers.{View, about}

-- an empty queue, emptied or not
pub nil : (t : Bool) → pick {A = List Message} t [] [] ≡ []
nil true = refl
nil false = refl

module _ (f : ℕ → Record → Bool) (g : ℕ → ℕ → Bool) (m : Model) where
  pub part-lose : (q : ℕ) → partition (lose f g m) q ≡ relapsed f q (partition m q)
  unfolding partition lose no_partition map_if
  part-lose q = get_or-map_from (relapsed f) no_partition (λ j. refl) m.partitions 0 q ∙ ap
      (λ (j : ℕ). relapsed f j (get_or m.partitions q no_partition)) (zero-add q)

  pub queue-lose : (a b : ℕ) → b < max_partitions → queue (lose f g m) a b ≡ pick (g a b) [] (queue m a b)
  unfolding queue lose
  queue-lose a b h =
      get_or-map_from (drained g) [] (λ j. nil (g (j / max_partitions) (j % max_partitions))) m.queues 0 (a * max_partitions + b)
      ∙ ap₂ (λ (x y : ℕ). pick (g x y) [] (get_or m.queues (a * max_partitions + b) [])) (omega arith) (omega arith)

  pub lose-shape : Shape m → Shape (lose f g m)
  unfolding lose
  lose-shape s = record { partitions = simp length-map_from s.partitions; queues = simp length-map_from s.queues }

  pub lose-view : {p n : ℕ} {E : List Entry} {R : List Record} {B : ℕ → List Backpointer} {M : ℕ → ℕ → List Message} → View m p n E R B M
      → View (lose f g m) p n E (map_if (f p) (in_stage Ready) R) B (λ a b. pick (g a b) [] (M a b))
  unfolding keep
  lose-view {p} {n} {R} {M} v =
      record {
        entries = rw (part-lose p) v.entries;
        records = rw (part-lose p)
            (keep-map_if (f p) (record_bears n) (in_stage Ready) (λ x. refl) (partition m p).records ∙ ap (map_if (f p) (in_stage Ready)) v.records);
        backpointers = λ q. rw (part-lose q) (v.backpointers q);
        messages = λ a b h. rw (queue-lose a b h) (off a b (g a b) ∙ ap (pick (g a b) []) (v.messages a b h));
      }
    where
      off : (a b : ℕ) (t : Bool) → keep (about a b p n) (pick t [] (queue m a b)) ≡ pick t [] (keep (about a b p n) (queue m a b))
      off a b true = refl
      off a b false = refl

pub count-lose : (f : ℕ → Record → Bool) (g : ℕ → ℕ → Bool) (m : Model) → length (lose f g m).partitions ≡ length m.partitions
unfolding lose
count-lose f g m = length-map_from (relapsed f) m.partitions 0

pub recast : {m : Model} {p n : ℕ} {E : List Entry} {R R' : List Record} {B : ℕ → List Backpointer} {M M' : ℕ → ℕ → List Message}
    → View m p n E R B M → R ≡ R' → ((a b : ℕ) → M a b ≡ M' a b) → View m p n E R' B M'
recast v e f = record
    { entries = v.entries; records = v.records ∙ e; backpointers = v.backpointers; messages = λ a b h. v.messages a b h ∙ f a b }

module _ (g : ℕ → ℕ → Bool) (even : (a b : ℕ) → g a b ≡ g b a) (p n : ℕ) (c : Content) where
  swept : (t : Bool) (a b : ℕ) (x y : ℕ) (z : Message) → g x y ≡ t
      → pick (g a b) [] (one (eqb a x && eqb b y) z) ≡ pick t [] (one (eqb a x && eqb b y) z)
  swept t a b x y z e =
      by_test (eqb a x && eqb b y)
      (λ u. ap (λ (w : Bool). pick w [] (one (eqb a x && eqb b y) z))
      (ap₂ g (eqb-true a x (and_left _ _ u)) (eqb-true b y (and_right (eqb a x) _ u)) ∙ e))
      (λ u. rw u (nil (g a b) ∙ sym (nil t)))

  pub letters-swept : (t : Bool) (l : Mail) → g p c.partition ≡ t → (a b : ℕ)
      → pick (g a b) [] (letters c n p l a b) ≡ pick t [] (letters c n p l a b)
  letters-swept t silent e a b = nil (g a b) ∙ sym (nil t)
  letters-swept t (out k) e a b = swept t a b p c.partition (message_at c n k Request) e
  letters-swept t (home k x) e a b = swept t a b c.partition p (message_at c n k x) (even c.partition p ∙ e)

module _ (f : ℕ → Record → Bool) (g : ℕ → ℕ → Bool) (m : Model) where
  pub lose-up : (q : ℕ) → (partition (lose f g m) q).up ≡ (partition m q).up
  lose-up q = ap (λ (x : Partition). x.up) (part-lose f g m q)

  pub lose-down : (p : ℕ) → AtRest m p → AtRest (lose f g m) p
  lose-down p d =
      record {
        ready = rw (part-lose f g m p)
            (none_of _ (let a = length-keep-map_if unready (f p) (in_stage Ready) (λ x e. no_true e refl) (partition m p).records in let b = ap length
            d.ready in omega arith));
        from = λ q h. queue-lose f g m p q h ∙ ap (pick (g p q) []) (d.from q h) ∙ nil (g p q);
        to = λ q h. queue-lose f g m q p h ∙ ap (pick (g q p) []) (d.to q h) ∙ nil (g q p);
      }

pub between-even : (a b x y : ℕ) → between a b x y ≡ between a b y x
between-even a b x y = or_comm (eqb x a && eqb y b) (eqb x b && eqb y a) ∙ ap₂ ◌||◌ (and_comm (eqb x b) (eqb y a)) (and_comm (eqb x a) (eqb y b))

pub all-ready : (l : List Record) (f : Record → Bool) → ((r : Record) → f r ≡ true) → keep unready (map_if f (in_stage Ready) l) ≡ []
unfolding keep map_if
all-ready [] f h = refl
all-ready (r ∷ l) f h = rw (h r) (all-ready l f h)

pub crash-down : (m : Model) (p : ℕ) → AtRest (lose (falls_with p) (touches p) m) p
crash-down m p =
    record {
      ready = rw (part-lose (falls_with p) (touches p) m p) (all-ready (partition m p).records (falls_with p p) (λ r. rw (eqb_same p) refl));
      from = λ q h. queue-lose (falls_with p) (touches p) m p q h ∙ rw (eqb_same p) refl;
      to = λ q h. queue-lose (falls_with p) (touches p) m q p h ∙ rw (eqb_same p, or-true (eqb q p)) refl;
    }

pub fresh-part : (k p : ℕ) → (partition (fresh k) p ≡ fresh_partition) ⊎ (partition (fresh k) p ≡ no_partition)
unfolding partition fresh
fresh-part zero p = inr refl
fresh-part (suc k) zero = inl refl
fresh-part (suc k) (suc p) = fresh-part k p

pub fresh-shape : (k : ℕ) → k ≤ max_partitions → Shape (fresh k)
unfolding fresh
fresh-shape k h = record { partitions = simp length-replicate h; queues = refl }

no-queue : (j i : ℕ) → get_or {A = List Message} (replicate j []) i [] ≡ []
no-queue zero i = refl
no-queue (suc j) zero = refl
no-queue (suc j) (suc i) = no-queue j i

pub fresh-queue : (k a b : ℕ) → queue (fresh k) a b ≡ []
unfolding queue fresh
fresh-queue k a b = no-queue queue_count (a * max_partitions + b)

pub fresh-none : {B : Type 0} (k : ℕ) (f : Partition → B) (v : B) → f fresh_partition ≡ v → f no_partition ≡ v → (p : ℕ) → f (partition (fresh k) p) ≡ v
fresh-none k f v a b p = elim (fresh-part k p) [ inl e ↦ rw e a | inr e ↦ rw e b ]

pub fresh-blank : (k p n : ℕ) → Blank (fresh k) p n
unfolding fresh_partition no_partition keep
fresh-blank k p n =
    record {
      entries = fresh-none k (λ x. keep (entry_bears n) x.entries) [] refl refl p;
      records = fresh-none k (λ x. keep (record_bears n) x.records) [] refl refl p;
      backpointers = fresh-none k (λ x. keep (backpointer_bears p n) x.backpointers) [] refl refl;
      messages = λ a b h. rw (fresh-queue k a b) refl;
    }

pub fresh-one : (k : ℕ) → 1 ≤ k → 0 < length (fresh k).partitions
unfolding fresh
fresh-one k h = simp length-replicate h

pub blank-neat : (u : Bool) → Neat (record { up = u; last = 0; entries = []; backpointers = []; records = [] })
unfolding keep claimed
blank-neat u = record
    { names = λ d s. lit≤ tt; keys = λ o a d s. lit≤ tt; records = lit≤ tt; backpointers = lit≤ tt; claimed = lit≤ tt; last = lit≤ tt }
