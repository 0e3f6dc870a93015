-- Room in tables in order.
use mathlib.Core.Bool.{Bool, ◌&&◌, false, true}
use mathlib.Core.List.{List, Memᴰ, [], ◌∷◌, head-eq_of_cons-eq, nil≢cons}
use mathlib.Core.Path.{◌∙◌, ◌≡◌, ap, ap₂, refl, subst, sym}
use Prim.Native.Nat.{◌<◌, ◌≤◌, ℕ}
use native.Mathlib.Nat.{le_trans}
use native.Mathlib.Omega.{arith}
use lib.Dec.{eqb}
use lib.ListN.{length}
use borrow.Author.Tests.{eq-eqb, eqb-true, ltb-true}
use Rattle.lists.specs.Lists.{is_none, keep}
use Rattle.protocol.specs.Answers.{Outcome, accepted, check}
use Rattle.protocol.specs.Ask.{ask, ask_tables, unlink, unlink_found}
use Rattle.protocol.specs.Bounds.{max_entries, max_messages, max_partitions, max_records}
use Rattle.protocol.specs.Deliver.{is_exactly}
use Rattle.protocol.specs.Elements.{Backpointer, BadName, Down, Entry, Kind, LogFull, Message, Name, NameExists, NumbersSpent, OutOfRange, Record, RecordOpen, Refusal, Request, Sent, Stage, adds, is_accepted, is_request, is_sent}
use Rattle.protocol.specs.Order.{in_order}
use Rattle.protocol.specs.Tables.{Model, claimed, entry_bears, in_place, partition, queue, record_bears, set_queue, stands_under, unentered}
use Rattle.lists.proofs.Keep.{keep-cons-same, kept, one-cons, some-mem, tally}
use Rattle.lists.proofs.Members.{length-keep-sub, mem-keep, seen-mem}
use Rattle.lists.proofs.Tests.{and_left, and_right, both_true, by_test, eqb_same, no_true}
use Rattle.protocol.proofs.Changes.{no_step, out-view}
use Rattle.protocol.proofs.Content.{Content, home, letters, message_at, out, record_at}
use Rattle.protocol.proofs.Few.{Few, request-giver, room-home, room_out}
use Rattle.protocol.proofs.Look.{four, is_queue, queue-cases}
use Rattle.protocol.proofs.Numbers.{View, about, part-queue}
use Rattle.protocol.proofs.Shows.{records-one, whole-few}
use Rattle.protocol.proofs.Tells.{order-whole}
use Rattle.protocol.proofs.Whole.{Fit, Sound, Way, Whole, asking, idle, mail_of, recs_of, rests, told}

module _ (m : Model) (o : in_order m ≡ true) where
  abbrev w : Whole m
  w = order-whole m o

  pub one-record : (p n : ℕ) → length (keep (record_bears n) (partition m p).records) ≤ 1
  one-record p n = let y : Fit m p n = w.local p n in rw y.has.records (records-one y.what n y.way)

  pub one_entry : (p n : ℕ) → length (keep (entry_bears n) (partition m p).entries) ≤ 1
  one_entry p n = let y : Fit m p n = w.local p n in rw y.has.entries y.single

  pub one_name : (p d : ℕ) (s : Name) → length (keep (stands_under d s) (partition m p).entries) ≤ 1
  one_name p d s = (w.neat p).names d s

  pub one_key : (q ob a d : ℕ) (s : Name) → length (keep (in_place ob a d s) (partition m q).backpointers) ≤ 1
  one_key q ob a d s = (w.neat q).keys ob a d s

  pub one-removed : (q a : ℕ) (x : Message) → length (keep (is_exactly a x) (partition m q).backpointers) ≤ 1
  one-removed q a x =
      le_trans (length-keep-sub (is_exactly a x) (in_place x.object a x.directory x.name) (λ b e. and_right (eqb b.number x.number) _ e)
      (partition m q).backpointers) (one_key q x.object a x.directory x.name)

  pub request-room : (p n : ℕ) (r : Record) (rs : List Record) → keep (record_bears n) (partition m p).records ≡ r ∷ rs → is_sent r.stage ≡ false
      → length (queue m p r.partition) < max_messages
  request-room p n r rs e t = let y : Fit m p n = w.local p n in go y.what y.way y.sound y.has
    where
      not-sent : (c : Content) (k : Kind) → keep (record_bears n) (partition m p).records ≡ record_at c n k Sent ∷ [] → is_sent r.stage ≡ true
      not-sent c k f = ap (λ (z : Record). is_sent z.stage) (head-eq_of_cons-eq (sym e ∙ f))

      go : (c : Content) (v : Way) → Sound m c v → {E : List Entry} {B : ℕ → List Backpointer}
          → View m p n E (recs_of c n v) B (letters c n p (mail_of v)) → length (queue m p r.partition) < max_messages
      go c idle so y = absurd (nil≢cons (sym y.records ∙ e))
      go c (rests k s) so y =
          let q : r.partition ≡ c.partition = ap (λ (z : Record). z.partition) (head-eq_of_cons-eq (sym e ∙ y.records)) in
          let h : r.partition < max_partitions = rw q (four w.shape c.partition so.0.partition) in
          room_out m (whole-few m w) p r.partition h n (y.messages p r.partition h) (rw e (omega arith))
      go c (asking k) so y = no_true (not-sent c k y.records) t
      go c (told k s) so y = no_true (not-sent c k y.records) t

  pub owner-there : (p n : ℕ) (r : Record) (rs : List Record) → keep (record_bears n) (partition m p).records ≡ r ∷ rs → r.partition < length m.partitions
  owner-there p n r rs e = let y : Fit m p n = w.local p n in go y.what y.way y.sound y.has.records
    where
      owner : (c : Content) (k : Kind) (s : Stage) → keep (record_bears n) (partition m p).records ≡ record_at c n k s ∷ [] → r.partition ≡ c.partition
      owner c k s f = ap (λ (z : Record). z.partition) (head-eq_of_cons-eq (sym e ∙ f))

      go : (c : Content) (v : Way) → Sound m c v → keep (record_bears n) (partition m p).records ≡ recs_of c n v → r.partition < length m.partitions
      go c idle so f = absurd (nil≢cons (sym f ∙ e))
      go c (rests k s) so f = rw (owner c k s f) so.0.partition
      go c (asking k) so f = rw (owner c k Sent f) so.partition
      go c (told k b) so f = rw (owner c k Sent f) so.0.partition

  pub entry-room : (p n : ℕ) (r : Record) (rs : List Record) → keep (record_bears n) (partition m p).records ≡ r ∷ rs → adds r.kind ≡ true
      → keep (entry_bears n) (partition m p).entries ≡ [] → length (partition m p).entries < max_entries
  unfolding claimed
  entry-room p n r rs e a z =
      let i : Memᴰ r (partition m p).records = seen-mem (record_bears n) (partition m p).records rs r e in
      let q : r.number ≡ n = eqb-true _ _ (kept (record_bears n) (partition m p).records r rs e) in
      let u : unentered (partition m p).entries r ≡ true = both_true a (rw q (ap is_none z)) in
      let j : 1 ≤ length (keep (unentered (partition m p).entries) (partition m p).records) = some-mem _
      (mem-keep (unentered (partition m p).entries) (partition m p).records r i u) in
      let k : claimed (partition m p) ≤ max_entries = (w.neat p).claimed in
      omega arith

  module _ (a b : ℕ) (x : Message) (l : List Message) (ha : a < max_partitions) (hb : b < max_partitions) (q : queue m a b ≡ x ∷ l) where
    abbrev popped : Model
    popped = set_queue m a b l

    fewer : (g : Message → Bool) → length (keep g l) ≤ length (keep g (x ∷ l))
    fewer g = let e = tally g x l in omega arith

    popped-few : Few popped
    popped-few =
        let f : Few m = whole-few m w in
        record {
          each = λ p n a' b' h. rw (part-queue m a b l p)
              (by_test (is_queue a b a' b')
              (λ t.
              let ea : a' ≡ a = eqb-true a' a (and_left _ _ t) in let eb : b' ≡ b = eqb-true b' b (and_right (eqb a' a) _ t) in
              let e : keep (about a' b' p n) (queue popped a' b') ≡ keep (about a' b' p n) l =
              queue-cases m a b l ha hb w.shape.queues (keep (about a' b' p n)) _ a' b' h (λ ea eb. refl) (λ s. no_true t s) in
              let c : length (keep (about a' b' p n) (queue m a' b')) ≡ length (keep (about a' b' p n) (x ∷ l)) = ap
              (λ (z : List Message). length (keep (about a' b' p n) z)) (ap₂ (queue m) ea eb ∙ q) in
              let d = f.each p n a' b' h in let k = fewer (about a' b' p n) in let e' = ap length e in omega arith)
              (λ t.
              let e : keep (about a' b' p n) (queue popped a' b') ≡ keep (about a' b' p n) (queue m a' b') =
              queue-cases m a b l ha hb w.shape.queues (keep (about a' b' p n)) _ a' b' h
              (λ ea eb. no_true (both_true (eq-eqb _ _ ea) (eq-eqb _ _ eb)) t) (λ s. refl) in
              let d = f.each p n a' b' h in let e' = ap length e in omega arith));
          small = λ p n h. rw (part-queue m a b l p) (f.small p n (rw (part-queue m a b l p) at h));
          sixteen = λ p. rw (part-queue m a b l p) (f.sixteen p);
        }

    up-a : (partition m a).up ≡ true
    up-a = by_test (partition m a).up (λ u. u) (λ u. absurd (nil≢cons (sym ((w.downs a u).from b hb) ∙ q)))

    up-b : (partition m b).up ≡ true
    up-b = by_test (partition m b).up (λ u. u) (λ u. absurd (nil≢cons (sym ((w.downs b u).to a hb) ∙ q)))

    pub answer-room : is_request x.body ≡ true → length (queue popped b a) < max_messages
    answer-room t = let y : Fit m a x.number = w.local a x.number in go y.what y.way y.sound y.has
      where
        n : ℕ
        n = x.number

        is : about a b a n x ≡ true
        is = both_true (eq-eqb _ a (request-giver a b x.body t)) (eqb_same x.number)

        first : (M : List Message) → keep (about a b a n) (queue m a b) ≡ M → x ∷ keep (about a b a n) l ≡ M
        first M e = sym (keep-cons-same (about a b a n) l x is) ∙ ap (keep (about a b a n)) (sym q) ∙ e

        go : (c : Content) (v : Way) → Sound m c v → {E : List Entry} {B : ℕ → List Backpointer}
            → View m a n E (recs_of c n v) B (letters c n a (mail_of v)) → length (queue popped b a) < max_messages
        go c idle so y = absurd (nil≢cons (sym (first [] (y.messages a b hb))))
        go c (rests k s) so y = absurd (nil≢cons (sym (first [] (y.messages a b hb))))
        go c (asking k) so y =
            let u = one-cons x (message_at c n k Request) (keep (about a b a n) l) (eqb a a && eqb b c.partition)
            (first (letters c n a (out k) a b) (y.messages a b hb)) in
            let eb : b ≡ c.partition = eqb-true b c.partition (and_right (eqb a a) _ u.0) in
            let ex : x ≡ message_at c n k Request = u.1 in
            let v = out-view m a n c w.shape up-a (rw eb at up-b) so k l (ap (queue m a) (sym eb) ∙ q ∙ ap (λ (z : Message). z ∷ l) ex) y in
            let e : keep (about b a a n) (queue popped b a) ≡ [] = subst (λ (z : ℕ). keep (about b a a n) (queue (set_queue m a z l) b a) ≡ [])
            (sym eb) (v.messages b a ha) in
            let r : keep (record_bears n) (partition popped a).records ≡ record_at c n k Sent ∷ [] = rw (part-queue m a b l a) y.records in
            room-home popped popped-few b a ha n e (rw r (omega arith))
        go c (told k s) so y =
            let u = one-cons x (message_at c n k s) (keep (about a b a n) l) (eqb a c.partition && eqb b a)
            (first (letters c n a (home k s) a b) (y.messages a b hb)) in
            no_true (ap (λ (z : Message). is_request z.body) (sym u.1) ∙ t) so.2

-- an ask is accepted only where every test passed
check-true : (t : Bool) (why : Refusal) (m : Model) (o : Outcome) → is_accepted why ≡ false → accepted (check t why m o) ≡ true
    → (t ≡ true) × (accepted o ≡ true)
unfolding check
check-true true why m o n e = (refl, e)
check-true false why m o n e = no_true e n

pub asked-room : (k : Kind) (m : Model) (p d : ℕ) (s : Name) (q o : ℕ) → accepted (ask k m p d s q o) ≡ true → length (partition m p).records < max_records
unfolding ask ask_tables
asked-room k m p d s q o e =
    let a = check-true _ OutOfRange m _ refl e in
    let b = check-true _ BadName m _ refl a.1 in
    let c = check-true _ Down m _ refl b.1 in
    let f = check-true _ NameExists m _ refl c.1 in
    let g = check-true _ NumbersSpent m _ refl f.1 in
    let h = check-true _ LogFull m _ refl g.1 in
    ltb-true _ _ h.0

pub unlinked-room : (m : Model) (p d : ℕ) (s : Name) → accepted (unlink m p d s) ≡ true → length (partition m p).records < max_records
unfolding unlink
unlinked-room m p d s e =
    let a = check-true _ OutOfRange m _ refl e in
    let b = check-true _ BadName m _ refl a.1 in
    let c = check-true _ Down m _ refl b.1 in
    go (keep (stands_under d s) (partition m p).entries) c.1
  where
    go : (es : List Entry) → accepted (unlink_found m p es) ≡ true → length (partition m p).records < max_records
    go [] e = no_step e
    go (y ∷ es) e =
        let a = check-true _ RecordOpen m _ refl e in
        let b = check-true _ LogFull m _ refl a.1 in
        ltb-true _ _ b.0
