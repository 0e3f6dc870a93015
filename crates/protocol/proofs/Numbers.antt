-- What the tables hold of one number, and what each write does to it and to the others.
use mathlib.Core.Bool.{Bool, ◌&&◌, false, true}
use mathlib.Core.List.{List}
use mathlib.Core.Path.{◌∙◌, ◌≡◌, ap, ap₂, refl, sym}
use Prim.Native.Nat.{◌<◌, ℕ}
use lib.Dec.{eqb}
use lib.ListN.{length, length-set}
use Rattle.lists.specs.Lists.{keep}
use Rattle.protocol.specs.Bounds.{max_partitions}
use Rattle.protocol.specs.Demands.{backpointer_bears}
use Rattle.protocol.specs.Elements.{Backpointer, Entry, Message, Record}
use Rattle.protocol.specs.Order.{giver}
use Rattle.protocol.specs.Tables.{Model, Partition, change_backpointers, change_entries, change_records, entry_bears, partition, queue, record_bears, set_partition, set_queue, with_backpointers, with_entries, with_records}
use Rattle.lists.proofs.Tests.{eqb_same, no_true}
use Rattle.protocol.proofs.Look.{Shape, is_queue, part-cases, part_field, part_same, queue-cases, up-four, up_in}
use Rattle.protocol.proofs.Neat.{Neat, Neats, neat-set}

abbrev pub here : ℕ → ℕ → ℕ → ℕ → Bool
here p n p' n' = eqb p' p && eqb n' n

-- a message from a to b is about p's number n
abbrev pub about : ℕ → ℕ → ℕ → ℕ → Message → Bool
about a b p n x = eqb (giver x.body a b) p && eqb x.number n

-- what the tables hold of p's number n
pub record View (m : Model) (p n : ℕ) (E : List Entry) (R : List Record) (B : ℕ → List Backpointer) (M : ℕ → ℕ → List Message) : Type 0 where
  pub entries : keep (entry_bears n) (partition m p).entries ≡ E
  pub records : keep (record_bears n) (partition m p).records ≡ R
  pub backpointers : (q : ℕ) → keep (backpointer_bears p n) (partition m q).backpointers ≡ B q
  pub messages : (a b : ℕ) → b < max_partitions → keep (about a b p n) (queue m a b) ≡ M a b

-- nothing else changed
pub record Else (m m' : Model) (p n : ℕ) : Type 0 where
  pub shape : Shape m'
  pub count : length m'.partitions ≡ length m.partitions
  pub ups : (q : ℕ) → (partition m' q).up ≡ (partition m q).up
  pub lasts : (q : ℕ) → (partition m' q).last ≡ (partition m q).last
  pub neat : Neats m → Neats m'
  pub still : (q : ℕ) → (partition m q).up ≡ false → (partition m' q).records ≡ (partition m q).records
  pub quiet : (a b : ℕ) → b < max_partitions → (partition m a).up && (partition m b).up ≡ false → queue m' a b ≡ queue m a b
  pub entries : (p' n' : ℕ) → here p n p' n' ≡ false
      → keep (entry_bears n') (partition m' p').entries ≡ keep (entry_bears n') (partition m p').entries
  pub records : (p' n' : ℕ) → here p n p' n' ≡ false
      → keep (record_bears n') (partition m' p').records ≡ keep (record_bears n') (partition m p').records
  pub backpointers : (p' n' : ℕ) → here p n p' n' ≡ false → (q : ℕ)
      → keep (backpointer_bears p' n') (partition m' q).backpointers ≡ keep (backpointer_bears p' n') (partition m q).backpointers
  pub messages : (p' n' : ℕ) → here p n p' n' ≡ false → (a b : ℕ) → b < max_partitions
      → keep (about a b p' n') (queue m' a b) ≡ keep (about a b p' n') (queue m a b)

pub else-trans : {m m' m'' : Model} {p n : ℕ} → Else m m' p n → Else m' m'' p n → Else m m'' p n
else-trans x y =
    record {
      shape = y.shape;
      count = y.count ∙ x.count;
      ups = λ q. y.ups q ∙ x.ups q;
      lasts = λ q. y.lasts q ∙ x.lasts q;
      neat = λ n. y.neat (x.neat n);
      still = λ q e. y.still q (x.ups q ∙ e) ∙ x.still q e;
      quiet = λ a b h e. y.quiet a b h (ap₂ ◌&&◌ (x.ups a) (x.ups b) ∙ e) ∙ x.quiet a b h e;
      entries = λ p' n' h. y.entries p' n' h ∙ x.entries p' n' h;
      records = λ p' n' h. y.records p' n' h ∙ x.records p' n' h;
      backpointers = λ p' n' h q. y.backpointers p' n' h q ∙ x.backpointers p' n' h q;
      messages = λ p' n' h a b hb. y.messages p' n' h a b hb ∙ x.messages p' n' h a b hb;
    }

pub shape-part : (m : Model) (p : ℕ) (x : Partition) → Shape m → Shape (set_partition m p x)
unfolding set_partition
shape-part m p x s = record { partitions = simp length-set s.partitions; queues = s.queues }

pub shape-queue : (m : Model) (a b : ℕ) (l : List Message) → Shape m → Shape (set_queue m a b l)
unfolding set_queue
shape-queue m a b l s = record { partitions = s.partitions; queues = simp length-set s.queues }

pub count-part : (m : Model) (p : ℕ) (x : Partition) → length (set_partition m p x).partitions ≡ length m.partitions
unfolding set_partition
count-part m p x = length-set m.partitions p x

count-queue : (m : Model) (a b : ℕ) (l : List Message) → length (set_queue m a b l).partitions ≡ length m.partitions
unfolding set_queue
count-queue m a b l = refl

pub queue-part : (m : Model) (p : ℕ) (x : Partition) (a b : ℕ) → queue (set_partition m p x) a b ≡ queue m a b
unfolding set_partition queue
queue-part m p x a b = refl

pub part-queue : (m : Model) (a b : ℕ) (l : List Message) (q : ℕ) → partition (set_queue m a b l) q ≡ partition m q
unfolding set_queue partition
part-queue m a b l q = refl

pub here-num : (p n n' : ℕ) → here p n p n' ≡ false → eqb n' n ≡ false
here-num p n n' e = rw eqb_same at e

-- partition q, which is up, becomes x, and differs in p's number n alone
pub record Differs (p n q : ℕ) (x y : Partition) : Type 0 where
  pub up : x.up ≡ y.up
  pub last : x.last ≡ y.last
  pub neat : Neat y → Neat x
  pub entries : (n' : ℕ) → here p n q n' ≡ false → keep (entry_bears n') x.entries ≡ keep (entry_bears n') y.entries
  pub records : (n' : ℕ) → here p n q n' ≡ false → keep (record_bears n') x.records ≡ keep (record_bears n') y.records
  pub backpointers : (p' n' : ℕ) → here p n p' n' ≡ false
      → keep (backpointer_bears p' n') x.backpointers ≡ keep (backpointer_bears p' n') y.backpointers

part-else : (m : Model) (p n q : ℕ) → Shape m → (partition m q).up ≡ true → (x : Partition) → Differs p n q x (partition m q)
    → Else m (set_partition m q x) p n
part-else m p n q s u x d =
    let h : q < length m.partitions = up_in m q u in
    record {
      shape = shape-part m q x s;
      count = count-part m q x;
      ups = part_field m q x h (λ (y : Partition). y.up) d.up;
      lasts = part_field m q x h (λ (y : Partition). y.last) d.last;
      neat = neat-set m q x h d.neat;
      still = λ r e. part-cases m q x h (λ (y : Partition). y.records) _ r (λ t. no_true u (rw t at e)) (λ t. refl);
      quiet = λ a b hb e. queue-part m q x a b;
      entries = λ p' n' e. part-cases m q x h (λ (y : Partition). keep (entry_bears n') y.entries) _ p'
          (λ t. d.entries n' (rw t at e) ∙ rw t refl) (λ t. refl);
      records = λ p' n' e. part-cases m q x h (λ (y : Partition). keep (record_bears n') y.records) _ p'
          (λ t. d.records n' (rw t at e) ∙ rw t refl) (λ t. refl);
      backpointers = λ p' n' e. part_field m q x h (λ (y : Partition). keep (backpointer_bears p' n') y.backpointers) (d.backpointers p' n' e);
      messages = λ p' n' e a b hb. rw (queue-part m q x) refl;
    }

module _ (m : Model) (p n : ℕ) (s : Shape m) (u : (partition m p).up ≡ true) where
  -- what a partition holds of its own number n, and the others as they were
  part-view : (x : Partition) {E : List Entry} {R : List Record} {B : ℕ → List Backpointer} {M : ℕ → ℕ → List Message}
      → View m p n E R B M → (E' : List Entry) (R' : List Record) → keep (entry_bears n) x.entries ≡ E' → keep (record_bears n) x.records ≡ R'
      → x.backpointers ≡ (partition m p).backpointers → View (set_partition m p x) p n E' R' B M
  part-view x v E' R' e r b =
      let h : p < length m.partitions = up_in m p u in
      record {
        entries = ap (λ (y : Partition). keep (entry_bears n) y.entries) (part_same m p x h) ∙ e;
        records = ap (λ (y : Partition). keep (record_bears n) y.records) (part_same m p x h) ∙ r;
        backpointers = λ q. part_field m p x h (λ (y : Partition). keep (backpointer_bears p n) y.backpointers)
            (ap (keep (backpointer_bears p n)) b) q ∙ v.backpointers q;
        messages = λ a b hb. rw (queue-part m p x) (v.messages a b hb);
      }

  -- records of p with the number n change
  module _ (f : List Record → List Record) where
    pub records-else : (Neat (partition m p) → Neat (with_records (partition m p) (f (partition m p).records)))
        → ((n' : ℕ) → eqb n' n ≡ false → (l : List Record) → keep (record_bears n') (f l) ≡ keep (record_bears n') l) → Else m (change_records m p f) p n
    unfolding change_records
    records-else w o =
        part-else m p n p s u _
        (record {
          up = refl;
          last = refl;
          neat = w;
          entries = λ n' e. refl;
          records = λ n' e. o n' (here-num p n n' e)
              (partition m p).records;
          backpointers = λ p' n' e. refl;
        })

    pub records-view : {E : List Entry} {R : List Record} {B : ℕ → List Backpointer} {M : ℕ → ℕ → List Message}
        → View m p n E R B M → (R' : List Record) → keep (record_bears n) (f (partition m p).records) ≡ R' → View (change_records m p f) p n E R' B M
    unfolding change_records
    records-view {E} v R' e = part-view _ v E R' v.entries e refl

  -- entries of p with the number n change
  module _ (f : List Entry → List Entry) where
    pub entries-else : (Neat (partition m p) → Neat (with_entries (partition m p) (f (partition m p).entries)))
        → ((n' : ℕ) → eqb n' n ≡ false → (l : List Entry) → keep (entry_bears n') (f l) ≡ keep (entry_bears n') l) → Else m (change_entries m p f) p n
    unfolding change_entries
    entries-else w o =
        part-else m p n p s u _
        (record {
          up = refl;
          last = refl;
          neat = w;
          entries = λ n' e. o n' (here-num p n n' e) (partition m p).entries;
          records = λ n' e.
              refl;
          backpointers = λ p' n' e. refl;
        })

    pub entries-view : {E : List Entry} {R : List Record} {B : ℕ → List Backpointer} {M : ℕ → ℕ → List Message}
        → View m p n E R B M → (E' : List Entry) → keep (entry_bears n) (f (partition m p).entries) ≡ E' → View (change_entries m p f) p n E' R B M
    unfolding change_entries
    entries-view {R} v E' e = part-view _ v E' R e v.records refl

-- back-pointers at q with the parent p and the number n change
module _ (m : Model) (p n q : ℕ) (s : Shape m) (u : (partition m q).up ≡ true) (f : List Backpointer → List Backpointer) where
  pub backs-else : (Neat (partition m q) → Neat (with_backpointers (partition m q) (f (partition m q).backpointers)))
      → ((p' n' : ℕ) → here p n p' n' ≡ false → (l : List Backpointer) → keep (backpointer_bears p' n') (f l) ≡ keep (backpointer_bears p' n') l)
      → Else m (change_backpointers m q f) p n
  unfolding change_backpointers
  backs-else w o =
      part-else m p n q s u _
      (record {
        up = refl;
        last = refl;
        neat = w;
        entries = λ n' e. refl;
        records = λ n' e. refl;
        backpointers = λ p' n' e. o p' n' e
            (partition m q).backpointers;
      })

  pub backs-view : {E : List Entry} {R : List Record} {B : ℕ → List Backpointer} {M : ℕ → ℕ → List Message}
      → View m p n E R B M → (B' : ℕ → List Backpointer) → keep (backpointer_bears p n) (f (partition m q).backpointers) ≡ B' q
      → ((q' : ℕ) → eqb q' q ≡ false → B q' ≡ B' q') → View (change_backpointers m q f) p n E R B' M
  unfolding change_backpointers
  backs-view v B' e o =
      let x : Partition = with_backpointers (partition m q) (f (partition m q).backpointers) in
      record {
        entries = part_field m q x (up_in m q u) (λ (y : Partition). keep (entry_bears n) y.entries) refl p ∙ v.entries;
        records = part_field m q x (up_in m q u) (λ (y : Partition). keep (record_bears n) y.records) refl p ∙ v.records;
        backpointers = λ q'. part-cases m q x (up_in m q u) (λ (y : Partition). keep (backpointer_bears p n) y.backpointers) (B' q') q'
            (λ t. e ∙ ap B' (sym t)) (λ t. v.backpointers q' ∙ o q' t);
        messages = λ a b hb. rw (queue-part m q x) (v.messages a b hb);
      }

-- the queue from a to b changes in messages about p's number n
module _ (m : Model) (p n a b : ℕ) (s : Shape m) (ua : (partition m a).up ≡ true) (ub : (partition m b).up ≡ true) (l : List Message) where
  pub queue-else : ((p' n' : ℕ) → here p n p' n' ≡ false → keep (about a b p' n') l ≡ keep (about a b p' n') (queue m a b))
      → Else m (set_queue m a b l) p n
  queue-else o =
      record {
        shape = shape-queue m a b l s;
        count = count-queue m a b l;
        ups = λ q. rw (part-queue m a b l q) refl;
        lasts = λ q. rw (part-queue m a b l q) refl;
        neat = λ n q. rw (part-queue m a b l q) (n q);
        still = λ q e. rw (part-queue m a b l q) refl;
        quiet = λ a' b' h e. queue-cases m a b l (up-four s a ua) (up-four s b ub) s.queues (λ z. z) _ a' b' h
            (λ ea eb. no_true (ap₂ ◌&&◌ ua ub) (rw (ea, eb) at e)) (λ t. refl);
        entries = λ p' n' e. rw (part-queue m a b l p') refl;
        records = λ p' n' e. rw (part-queue m a b l p') refl;
        backpointers = λ p' n' e q. rw (part-queue m a b l q) refl;
        messages = λ p' n' e a' b' h. queue-cases m a b l (up-four s a ua) (up-four s b ub) s.queues (keep (about a' b' p' n')) _ a' b' h
            (λ ea eb. rw (ea, eb) (o p' n' e)) (λ t. refl);
      }

  pub queue-view : {E : List Entry} {R : List Record} {B : ℕ → List Backpointer} {M : ℕ → ℕ → List Message}
      → View m p n E R B M → (M' : ℕ → ℕ → List Message) → (keep (about a b p n) l ≡ M' a b)
      → ((a' b' : ℕ) → is_queue a b a' b' ≡ false → M a' b' ≡ M' a' b')
      → View (set_queue m a b l) p n E R B M'
  queue-view v M' e o =
      record {
        entries = rw (part-queue m a b l p) v.entries;
        records = rw (part-queue m a b l p) v.records;
        backpointers = λ q. rw (part-queue m a b l q) (v.backpointers q);
        messages = λ a' b' h. queue-cases m a b l (up-four s a ua) (up-four s b ub) s.queues (keep (about a' b' p n)) (M' a' b') a' b' h
            (λ ea eb. rw (ea, eb) e) (λ t. v.messages a' b' h ∙ o a' b' t);
      }
