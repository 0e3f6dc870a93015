-- Whole tables pass the test.
use mathlib.Core.Bool.{Bool, ◌&&◌, ◌||◌, false, not, true}
use mathlib.Core.List.Memᴰ
use mathlib.Core.List.{List, Memᴰ, [], ◌∷◌, nil≢cons}
use mathlib.Core.Path.{◌∙◌, ◌≡◌, ap, ap₂, refl, subst, sym}
use Prim.Native.Nat.{◌+◌, ◌<◌, ◌≤◌, ℕ}
use native.Mathlib.Omega.{arith}
use lib.Dec.{eqb, leb, lit≤}
use lib.ListN.{get_or-eq_default, length}
use borrow.Author.Tests.{eq-eqb, eqb-true, le-leb, leb-false, leb-true, lt-ltb, ltb-false}
use Rattle.lists.specs.Lists.{all, any, is_none, keep, one}
use Rattle.protocol.specs.Bounds.{max_entries, max_partitions}
use Rattle.protocol.specs.Demands.{backpointer_bears}
use Rattle.protocol.specs.Elements.{Backpointer, Body, Create, Entry, Kind, Link, Message, No, NoBecause, Record, Request, Sent, Stage, Unlink, Yes, is_ready, is_request, same_kind, stage_fits}
use Rattle.protocol.specs.Order.{o1, o2, o3, o4, o5, o6, o7, backpointer_in_range, backpointers_apart, backpointers_clash, each_pair, entries_apart, entry_in_range, given_by, giver, has_one_message, has_record, holder, in_order, in_range, is_answer_to, is_request_of, matches, numbers_given, partition_in_range, record_in_range, records_apart, records_clash, sent_as}
use Rattle.protocol.specs.Tables.{Model, Partition, claimed, entry_bears, is_partition, no_partition, partition, partition_count, queue, record_bears, stands_under}
use Rattle.lists.proofs.Apart.{any-true, apart-or, few-apart}
use Rattle.lists.proofs.Keep.{keep-cons-other, keep-cons-same, one-le}
use Rattle.lists.proofs.Members.{all_true, keep-sub, mem-keep, one-mem, seen-mem}
use Rattle.lists.proofs.Tests.{◌also◌, and_left, and_right, below_true, both_true, by_test, done, eqb_same, every-at, every_of, no_true, or_else}
use Rattle.names.proofs.Laws.{name-same}
use Rattle.protocol.proofs.Content.{Blank, Content, Fine, Mail, home, letters, message_at, out, record_at, unready}
use Rattle.protocol.proofs.Few.{Few, answer-giver, queue-short, request-giver}
use Rattle.protocol.proofs.Look.{Shape, four}
use Rattle.protocol.proofs.Numbers.{View, about}
use Rattle.protocol.proofs.Whole.{Fit, Sound, Way, Whole, asking, idle, mail_of, of_backpointer, of_entry, of_record, recs_of, rests, told}

fine-range : (m : Model) (c : Content) → Fine m c → in_range m c.directory c.partition c.object ≡ true
unfolding in_range
fine-range m c f = every_of _ (lt-ltb _ _ f.directory also lt-ltb _ _ f.partition also lt-ltb _ _ f.object also done)

pub no_last : (m : Model) (p : ℕ) → length m.partitions ≤ p → (partition m p).last ≡ 0
unfolding partition no_partition
no_last m p h = ap (λ (x : Partition). x.last) (get_or-eq_default m.partitions no_partition {n = p} h)

kind-same : (k : Kind) → same_kind k k ≡ true
kind-same Link = refl
kind-same Create = refl
kind-same Unlink = refl

of-same : (c : Content) (n : ℕ) (k : Kind) (s : Stage) (t : Body) → matches (record_at c n k s) (message_at c n k t) ≡ true
unfolding matches
of-same c n k s t =
    every_of _
    (eqb_same n also kind-same k also eqb_same c.directory also eqb_same c.partition also eqb_same c.object also name-same c.name
    also done)

of_num : (r : Record) (x : Message) → matches r x ≡ true → eqb x.number r.number ≡ true
unfolding matches
of_num r x e = every-at _ e 0

pub asks-about : (r : Record) (p q : ℕ) (x : Message) → is_request_of r x ≡ true → about p q p r.number x ≡ true
asks-about r p q x e = both_true (eq-eqb _ p (request-giver p q x.body (and_left _ _ e))) (of_num r x (and_right (is_request x.body) _ e))

pub answers-about : (r : Record) (p q : ℕ) (x : Message) → is_answer_to r x ≡ true → about q p p r.number x ≡ true
answers-about r p q x e = both_true (eq-eqb _ p (answer-giver q p x.body (and_left _ _ e)))
    (of_num r x (and_right (not (is_request x.body)) _ e))

count-one : (g : Message → Bool) (x : Message) → g x ≡ true → length (keep g (x ∷ [])) ≡ 1
unfolding keep
count-one g x e = rw e refl

count_none : (g : Message → Bool) (t : Bool) (x : Message) → g x ≡ false → length (keep g (one t x)) ≡ 0
unfolding keep
count_none g true x e = rw e refl
count_none g false x e = refl

module _ (m : Model) (p n : ℕ) (c : Content) (s : Shape m) (h : p < length m.partitions) (f : Fine m c) where
  two : (k : Kind) (l : Mail) → keep (about p c.partition p n) (queue m p c.partition) ≡ letters c n p l p c.partition
      → keep (about c.partition p p n) (queue m c.partition p) ≡ letters c n p l c.partition p
      → length (keep (is_request_of (record_at c n k Sent)) (letters c n p l p c.partition)) + length
      (keep (is_answer_to (record_at c n k Sent)) (letters c n p l c.partition p)) ≡ 1 → has_one_message m p (record_at c n k Sent) ≡ true
  two k l a b e =
      let r : Record = record_at c n k Sent in
      eq-eqb _ 1
      (ap₂ (λ (x y : List Message). length x + length y)
      (keep-sub (is_request_of r) (about p c.partition p n) (asks-about r p c.partition) (queue m p c.partition) ∙ ap (keep (is_request_of r)) a)
      (keep-sub (is_answer_to r) (about c.partition p p n) (answers-about r p c.partition) (queue m c.partition p) ∙ ap
      (keep (is_answer_to r)) b) ∙ e)

  sent-out : (k : Kind) {E : List Entry} {B : ℕ → List Backpointer} → View m p n E (record_at c n k Sent ∷ []) B (letters c n p (out k))
      → has_one_message m p (record_at c n k Sent) ≡ true
  sent-out k v =
      let u : length (keep (is_request_of (record_at c n k Sent)) (letters c n p (out k) p c.partition)) ≡ 1 =
      rw (eqb_same p, eqb_same c.partition)
      (count-one (is_request_of (record_at c n k Sent)) (message_at c n k Request) (of-same c n k Sent Request)) in
      let w : length (keep (is_answer_to (record_at c n k Sent)) (letters c n p (out k) c.partition p)) ≡ 0 =
      count_none (is_answer_to (record_at c n k Sent)) (eqb c.partition p && eqb p c.partition) (message_at c n k Request) refl in
      two k (out k) (v.messages p c.partition (four s c.partition f.partition)) (v.messages c.partition p (four s p h)) (omega arith)

  sent-home : (k : Kind) (t : Body) → is_request t ≡ false → {E : List Entry} {B : ℕ → List Backpointer}
      → View m p n E (record_at c n k Sent ∷ []) B (letters c n p (home k t)) → has_one_message m p (record_at c n k Sent) ≡ true
  sent-home k t nr v =
      let u : length (keep (is_request_of (record_at c n k Sent)) (letters c n p (home k t) p c.partition)) ≡ 0 =
      count_none (is_request_of (record_at c n k Sent)) (eqb p c.partition && eqb c.partition p) (message_at c n k t) (rw nr refl) in
      let w : length (keep (is_answer_to (record_at c n k Sent)) (letters c n p (home k t) c.partition p)) ≡ 1 =
      rw (eqb_same p, eqb_same c.partition) (count-one (is_answer_to (record_at c n k Sent)) (message_at c n k t) (rw nr (of-same c n k Sent t))) in
      two k (home k t) (v.messages p c.partition (four s c.partition f.partition)) (v.messages c.partition p (four s p h)) (omega arith)

-- each record, by its number's way
module _ (m : Model) (p n : ℕ) (c : Content) (s : Shape m) (h : p < length m.partitions) where
  record-once : (w : Way) → Sound m c w → {E : List Entry} {B : ℕ → List Backpointer} → View m p n E (recs_of c n w) B (letters c n p (mail_of w))
      → (r : Record) → Memᴰ r (recs_of c n w) → has_one_message m p r ≡ true
  record-once idle o v r i = absurd (Memᴰ.not-nil i)
  record-once (rests k t) o v r i = subst (λ (y : Record). has_one_message m p y ≡ true) (sym (Memᴰ.eq_of_singleton i)) (rw o.2 refl)
  record-once (asking k) o v r i = subst (λ (y : Record). has_one_message m p y ≡ true) (sym (Memᴰ.eq_of_singleton i)) (sent-out m p n c s h o k v)
  record-once (told k t) o v r i = subst (λ (y : Record). has_one_message m p y ≡ true) (sym (Memᴰ.eq_of_singleton i))
      (sent-home m p n c s h o.0 k t o.2 v)

ok-sent : (k : Kind) → stage_fits k Sent ≡ true
ok-sent k = refl

record-why : (m : Model) (c : Content) (n : ℕ) (r : Record) (w : Way) → Sound m c w → Memᴰ r (recs_of c n w)
    → Fine m (of_record r) × (stage_fits r.kind r.stage ≡ true)
record-why m c n r idle o i = absurd (Memᴰ.not-nil i)
record-why m c n r (rests k s) o i = subst (λ (y : Record). Fine m (of_record y) × (stage_fits y.kind y.stage ≡ true))
    (sym (Memᴰ.eq_of_singleton i)) (o.0, o.1)
record-why m c n r (asking k) o i = subst (λ (y : Record). Fine m (of_record y) × (stage_fits y.kind y.stage ≡ true))
    (sym (Memᴰ.eq_of_singleton i)) (o, refl)
record-why m c n r (told k t) o i = subst (λ (y : Record). Fine m (of_record y) × (stage_fits y.kind y.stage ≡ true))
    (sym (Memᴰ.eq_of_singleton i)) (o.0, refl)

-- a message is of a sent record
sent-any : (c : Content) (n : ℕ) (k : Kind) (t : Body) (l : List Record) → keep (record_bears n) l ≡ record_at c n k Sent ∷ []
    → any (sent_as (message_at c n k t) c.partition) l ≡ true
sent-any c n k t l r =
    any-true _ l (record_at c n k Sent) (seen-mem (record_bears n) l [] (record_at c n k Sent) r)
    (every_of _ (refl also eqb_same c.partition also of-same c n k Sent t also done))

answer-holder : (t : Body) (a b : ℕ) → is_request t ≡ false → (giver t a b ≡ b) × (holder t a b ≡ a)
answer-holder Request a b e = no_true refl e
answer-holder Yes a b e = (refl, refl)
answer-holder No a b e = (refl, refl)
answer-holder (NoBecause x) a b e = (refl, refl)

module _ (m : Model) (p n : ℕ) (c : Content) (a b : ℕ) where
  letter-in : (w : Way) → Sound m c w → keep (record_bears n) (partition m p).records ≡ recs_of c n w → (y : Message)
      → Memᴰ y (letters c n p (mail_of w) a b) → has_record m a b y ≡ true
  letter-in idle o v y i = absurd (Memᴰ.not-nil i)
  letter-in (rests k s) o v y i = absurd (Memᴰ.not-nil i)
  letter-in (asking k) o v y i =
      let z = one-mem (eqb a p && eqb b c.partition) y (message_at c n k Request) i in
      let ea : a ≡ p = eqb-true a p (and_left _ _ z.0) in
      let eb : b ≡ c.partition = eqb-true b c.partition (and_right (eqb a p) _ z.0) in
      subst (λ (y' : Message). has_record m a b y' ≡ true) (sym z.1) (rw (ea, eb) (sent-any c n k Request (partition m p).records v))
  letter-in (told k t) o v y i =
      let z = one-mem (eqb a c.partition && eqb b p) y (message_at c n k t) i in
      let ea : a ≡ c.partition = eqb-true a c.partition (and_left _ _ z.0) in
      let eb : b ≡ p = eqb-true b p (and_right (eqb a c.partition) _ z.0) in
      let u = answer-holder t a b o.2 in
      subst (λ (y' : Message). has_record m a b y' ≡ true) (sym z.1)
      (both_true o.1 (rw (u.0, u.1, ea, eb) (sent-any c n k t (partition m p).records v)))

-- no more messages of a number than records
pub mail-le : (c : Content) (n p a b : ℕ) (w : Way) → length (letters c n p (mail_of w) a b) ≤ length (recs_of c n w)
mail-le c n p a b idle = omega arith
mail-le c n p a b (rests k s) = omega arith
mail-le c n p a b (asking k) = one-le (eqb a p && eqb b c.partition) _
mail-le c n p a b (told k t) = one-le (eqb a c.partition && eqb b p) _

pub whole-few : (m : Model) → Whole m → Few m
whole-few m w =
    record {
      each = λ p n a b h. let y : Fit m p n = w.local p n in rw (y.has.messages a b h, y.has.records) (mail-le y.what n p a b y.way);
      small = λ p n h. (w.later p n h).records;
      sixteen = λ p. (w.neat p).records;
    }

pub records-one : (c : Content) (n : ℕ) (w : Way) → length (recs_of c n w) ≤ 1
records-one c n idle = lit≤ tt
records-one c n (rests k s) = lit≤ tt
records-one c n (asking k) = lit≤ tt
records-one c n (told k t) = lit≤ tt

ready-all : (l : List Record) → keep unready l ≡ [] → all (λ r. is_ready r.stage) l ≡ true
unfolding all
ready-all [] e = refl
ready-all (r ∷ l) e =
    by_test (is_ready r.stage)
    (λ t. both_true t (ready-all l (sym (keep-cons-other unready l r (rw t refl)) ∙ e)))
    (λ t. absurd (nil≢cons (sym e ∙ keep-cons-same unready l r (rw t refl))))

claimed-entries : (x : Partition) → claimed x ≤ max_entries → length x.entries ≤ max_entries
unfolding claimed
claimed-entries x h = omega arith

module _ (m : Model) (w : Whole m) where
  -- a number with something to it was given
  was-given : (p n : ℕ) → (Blank m p n → ⊥) → given_by (partition m p) n ≡ true
  unfolding given_by
  was-given p n h = both_true
      (by_test (leb 1 n) (λ t. t) (λ t. absurd (h (rw (let a = leb-false 1 n t in zero_of n (omega arith)) (w.never p)))))
      (by_test (leb n (partition m p).last) (λ t. t) (λ t. absurd (h (w.later p n (leb-false n (partition m p).last t)))))
    where
      zero_of : (n : ℕ) → n < 1 → n ≡ 0
      zero_of n h = omega arith

  given-within : (p n : ℕ) → given_by (partition m p) n ≡ true → is_partition m p ≡ true
  unfolding given_by
  given-within p n h = by_test (is_partition m p) (λ t. t)
      (λ t. let a = no_last m p (ltb-false _ _ t) in let b = leb-true 1 n (and_left _ _ h) in let c = leb-true n (partition m p).last
      (and_right (leb 1 n) _ h) in absurd (omega arith))

  module _ (p : ℕ) where
    entry_here : (e : Entry) → Memᴰ e (partition m p).entries → Memᴰ e (keep (entry_bears e.number) (partition m p).entries)
    entry_here e i = mem-keep (entry_bears e.number) (partition m p).entries e i (eqb_same e.number)

    record-here : (r : Record) → Memᴰ r (partition m p).records → Memᴰ r (keep (record_bears r.number) (partition m p).records)
    record-here r i = mem-keep (record_bears r.number) (partition m p).records r i (eqb_same r.number)

    back-here : (b : Backpointer) → Memᴰ b (partition m p).backpointers
        → Memᴰ b (keep (backpointer_bears b.parent b.number) (partition m p).backpointers)
    back-here b i = mem-keep (backpointer_bears b.parent b.number) (partition m p).backpointers b i
        (both_true (eqb_same b.parent) (eqb_same b.number))

    entry-fine : (e : Entry) → Memᴰ e (partition m p).entries → Fine m (of_entry e)
    entry-fine e i = let y : Fit m p e.number = w.local p e.number in y.entries_fine e (rw y.has.entries at (entry_here e i))

    entry-given : (e : Entry) → Memᴰ e (partition m p).entries → given_by (partition m p) e.number ≡ true
    entry-given e i = was-given p e.number (λ v. Memᴰ.not-nil (rw v.entries at (entry_here e i)))

    pub record-fits : (r : Record) → Memᴰ r (partition m p).records → Fine m (of_record r) × (stage_fits r.kind r.stage ≡ true)
    record-fits r i =
        let y : Fit m p r.number = w.local p r.number in
        record-why m y.what r.number r y.way y.sound (rw y.has.records at (record-here r i))

    record-given : (r : Record) → Memᴰ r (partition m p).records → given_by (partition m p) r.number ≡ true
    record-given r i = was-given p r.number (λ v. Memᴰ.not-nil (rw v.records at (record-here r i)))

    back-fine : (b : Backpointer) → Memᴰ b (partition m p).backpointers → Fine m (of_backpointer p b)
    back-fine b i =
        let y : Fit m b.parent b.number = w.local b.parent b.number in
        y.backpointers_fine p b (rw (y.has.backpointers p) at (back-here b i))

    back-given : (b : Backpointer) → Memᴰ b (partition m p).backpointers → given_by (partition m b.parent) b.number ≡ true
    back-given b i = was-given b.parent b.number (λ v. Memᴰ.not-nil (rw (v.backpointers p) at (back-here b i)))

    entry-range : (e : Entry) → Memᴰ e (partition m p).entries → entry_in_range m e ≡ true
    entry-range e i = let f = entry-fine e i in both_true (fine-range m (of_entry e) f) f.name

    record-range : (r : Record) → Memᴰ r (partition m p).records → record_in_range m r ≡ true
    record-range r i = let f = record-fits r i in both_true (fine-range m (of_record r) f.0) (both_true f.0.name f.1)

    back-range : (b : Backpointer) → Memᴰ b (partition m p).backpointers → backpointer_in_range m b ≡ true
    unfolding in_range
    back-range b i =
        let f = back-fine b i in
        let r : in_range m b.directory b.parent b.object ≡ true =
        every_of _ (lt-ltb _ _ f.directory also given-within b.parent b.number (back-given b i) also lt-ltb _ _ f.object also done) in
        both_true r f.name

    in-range : partition_in_range m (partition m p) ≡ true
    unfolding partition_in_range
    in-range =
        let x : Partition = partition m p in
        every_of _
        (le-leb _ _ (w.neat p).last
        also le-leb _ _ (claimed-entries x (w.neat p).claimed)
        also le-leb _ _ (w.neat p).backpointers
        also le-leb _ _ (w.neat p).records
        also all_true (entry_in_range m) x.entries entry-range
        also all_true (backpointer_in_range m) x.backpointers back-range
        also all_true (record_in_range m) x.records record-range
        also done)

    entries-apart : entries_apart (partition m p) ≡ true
    entries-apart =
        let l : List Entry = (partition m p).entries in
        apart-or (λ x. stands_under x.directory x.name) (λ x. entry_bears x.number) l
        ∙ both_true
        (few-apart (λ x. stands_under x.directory x.name) (λ x. both_true (eqb_same x.directory) (name-same x.name)) l
        (λ x i. (w.neat p).names x.directory x.name))
        (few-apart (λ x. entry_bears x.number) (λ x. eqb_same x.number) l
        (λ x i. let y : Fit m p x.number = w.local p x.number in rw y.has.entries y.single))

    records-apart : records_apart (partition m p) ≡ true
    records-apart =
        few-apart records_clash (λ r. eqb_same r.number) (partition m p).records
        (λ r i. let y : Fit m p r.number = w.local p r.number in rw y.has.records (records-one y.what r.number y.way))

    backs-apart : backpointers_apart (partition m p) ≡ true
    backs-apart =
        few-apart backpointers_clash
        (λ b. rw (eqb_same b.object, eqb_same b.parent, eqb_same b.directory, name-same b.name) refl) (partition m p).backpointers
        (λ b i. (w.neat p).keys b.object b.parent b.directory b.name)

    all-given : numbers_given m (partition m p) ≡ true
    unfolding numbers_given
    all-given =
        every_of _
        (all_true _ (partition m p).entries entry-given
        also all_true _ (partition m p).records record-given
        also all_true _ (partition m p).backpointers back-given
        also done)

    once-ok : p < length m.partitions → (r : Record) → Memᴰ r (partition m p).records → has_one_message m p r ≡ true
    once-ok h r i =
        let y : Fit m p r.number = w.local p r.number in
        record-once m p r.number y.what w.shape h y.way y.sound y.has r (rw y.has.records at (record-here r i))

  letter-ok : (a b : ℕ) → b < max_partitions → (y : Message) → Memᴰ y (queue m a b) → has_record m a b y ≡ true
  letter-ok a b hb y i =
      let p : ℕ = giver y.body a b in
      let x : Fit m p y.number = w.local p y.number in
      letter-in m p y.number x.what a b x.way x.sound x.has.records y
      (rw (x.has.messages a b hb) at (mem-keep (about a b p y.number) (queue m a b) y i (both_true (eqb_same p) (eqb_same y.number))))

  quiet_ok : (a b : ℕ) → b < max_partitions → ((partition m a).up && (partition m b).up || is_none (queue m a b)) ≡ true
  quiet_ok a b hb =
      or_else ((partition m a).up && (partition m b).up)
      (λ t. ap is_none (by_test (partition m a).up (λ u. (w.downs b (rw u at t)).to a hb) (λ u. (w.downs a u).from b hb)))

  pairs : (f : ℕ → ℕ → Bool) → ((a b : ℕ) → b < max_partitions → f a b ≡ true) → each_pair f ≡ true
  pairs f h = below_true max_partitions _ (λ a ha. below_true max_partitions (f a) (λ b hb. h a b hb))

  o1-holds : o1 m ≡ true
  unfolding o1
  o1-holds =
      every_of _
      (le-leb _ _ w.some
      also le-leb _ _ w.shape.partitions
      also eq-eqb _ _ w.shape.queues
      also below_true (partition_count m) _ (λ p h. in-range p)
      also pairs _ (λ a b hb. le-leb _ _ (queue-short m (whole-few m w) a b hb))
      also done)

  o2-holds : o2 m ≡ true
  unfolding o2
  o2-holds = below_true (partition_count m) _ (λ p h. entries-apart p)

  o3-holds : o3 m ≡ true
  unfolding o3
  o3-holds = below_true (partition_count m) _ (λ p h. records-apart p)

  o4-holds : o4 m ≡ true
  unfolding o4
  o4-holds = below_true (partition_count m) _ (λ p h. both_true (backs-apart p) (all-given p))

  o5-holds : o5 m ≡ true
  unfolding o5
  o5-holds = below_true (partition_count m) _ (λ p h. le-leb _ _ (w.neat p).claimed)

  o6-holds : o6 m ≡ true
  unfolding o6
  o6-holds =
      both_true
      (pairs _ (λ a b hb. all_true (has_record m a b) (queue m a b) (letter-ok a b hb)))
      (below_true (partition_count m) _ (λ p h. all_true (has_one_message m p) (partition m p).records (once-ok p h)))

  o7-holds : o7 m ≡ true
  unfolding o7
  o7-holds =
      both_true
      (pairs _ (λ a b hb. quiet_ok a b hb))
      (below_true (partition_count m) _ (λ p h. or_else (partition m p).up (λ t. ready-all (partition m p).records (w.downs p t).ready)))

  pub whole-order : in_order m ≡ true
  unfolding in_order
  whole-order = every_of _ (o1-holds also o2-holds also o3-holds also o4-holds also o5-holds also o6-holds also o7-holds also done)
