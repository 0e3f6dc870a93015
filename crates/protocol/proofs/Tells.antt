-- What the test says of tables that pass it: they are whole.
use mathlib.Core.Bool.{Bool, ◌&&◌, ◌||◌, and-false, false, not, true}
use mathlib.Core.List.{List, Memᴰ, [], ◌∷◌}
use mathlib.Core.Logic.{◌⊎◌, inl, inr}
use mathlib.Core.Path.{◌∙◌, ◌≡◌, ap, ap₂, refl, subst, sym}
use Prim.Native.Nat.{◌*◌, ◌+◌, ◌<◌, ◌≤◌, ℕ}
use native.Mathlib.Omega.{arith}
use lib.Dec.{eqb, leb, lit≤, ltb}
use lib.ListN.{get_or-eq_default, length}
use borrow.Author.Tests.{eq-eqb, eqb-true, leb-true, ltb-false, ltb-true}
use Rattle.lists.specs.Lists.{all, is_none, keep, one}
use Rattle.names.specs.Names.{good_name}
use Rattle.protocol.specs.Bounds.{max_backpointers, max_entries, max_partitions, max_records}
use Rattle.protocol.specs.Demands.{backpointer_bears}
use Rattle.protocol.specs.Elements.{Backpointer, Body, Cleared, Create, Entry, Held, Kind, Link, Message, Name, No, NoBecause, Ready, Record, Refused, Request, Sent, Stage, Unlink, Yes, body_fits, is_ready, is_request, is_sent, same_kind, stage_fits}
use Rattle.protocol.specs.Order.{o1, o2, o3, o4, o5, o6, o7, all_ready, backpointer_in_range, backpointers_apart, backpointers_clash, each_pair, entries_apart, entries_clash, entry_in_range, given_by, giver, has_one_message, has_record, holder, in_order, in_range, is_answer_to, is_request_of, matches, numbers_given, partition_in_range, record_in_range, records_apart, records_clash, room_kept, sent_as}
use Rattle.protocol.specs.Tables.{Model, Partition, claimed, entry_bears, in_place, is_partition, no_partition, partition, queue, record_bears, stands_under}
use Rattle.lists.proofs.Apart.{any-mem, apart-few}
use Rattle.lists.proofs.Keep.{is_none-true, kept}
use Rattle.lists.proofs.Members.{all-get, keep-mem, keep-nil, keep_same, mem-keep, seen-mem}
use Rattle.lists.proofs.Tests.{and_left, and_right, below_at, bool_same, both_true, by_test, every-at, no_true, not-true, or_else, or_left, or_right}
use Rattle.names.proofs.Laws.{name-true}
use Rattle.protocol.proofs.Content.{AtRest, Blank, Content, Fine, letters, message_at, record_at, unready}
use Rattle.protocol.proofs.Look.{Shape, four, place-true, stands-true}
use Rattle.protocol.proofs.Neat.{Neat}
use Rattle.protocol.proofs.Numbers.{about}
use Rattle.protocol.proofs.Shows.{answers-about, asks-about}
use Rattle.protocol.proofs.Whole.{Fit, Sound, Way, Whole, asking, idle, mail_of, of_backpointer, of_entry, of_record, recs_of, rests, told}

-- what is in range, and a good name
pub range-fine : (m : Model) (c : Content) → in_range m c.directory c.partition c.object ≡ true → good_name c.name ≡ true → Fine m c
unfolding in_range
range-fine m c h g =
    record { partition = ltb-true _ _ (every-at _ h 1); directory = ltb-true _ _ (every-at _ h 0); object = ltb-true _ _ (every-at _ h 2); name = g }

kind-true : (a b : Kind) → same_kind a b ≡ true → a ≡ b
kind-true Link Link e = refl
kind-true Link Create e = no_true e refl
kind-true Link Unlink e = no_true e refl
kind-true Create Link e = no_true e refl
kind-true Create Create e = refl
kind-true Create Unlink e = no_true e refl
kind-true Unlink Link e = no_true e refl
kind-true Unlink Create e = no_true e refl
kind-true Unlink Unlink e = refl

-- a message of a record is the record's
of_is : (r : Record) (x : Message) → matches r x ≡ true → x ≡ message_at (of_record r) r.number r.kind x.body
unfolding matches
of_is r x e =
    let a : x.number ≡ r.number = eqb-true _ _ (every-at _ e 0) in
    let b : x.kind ≡ r.kind = kind-true x.kind r.kind (every-at _ e 1) in
    let c : x.directory ≡ r.directory = eqb-true _ _ (every-at _ e 2) in
    let d : x.name ≡ r.name = name-true x.name r.name (every-at _ e 5) in
    let f : x.partition ≡ r.partition = eqb-true _ _ (every-at _ e 3) in
    let g : x.object ≡ r.object = eqb-true _ _ (every-at _ e 4) in
    λ i. record { body = x.body; kind = b i; directory = c i; name = d i; partition = f i; object = g i; number = a i }

sent_is : (r : Record) (n : ℕ) → r.number ≡ n → is_sent r.stage ≡ true → r ≡ record_at (of_record r) n r.kind Sent
sent_is r n e t =
    let s : r.stage ≡ Sent = stage r.stage t in
    λ i. record { kind = r.kind; directory = r.directory; name = r.name; partition = r.partition; object = r.object; number = e i; stage = s i }
  where
    stage : (s : Stage) → is_sent s ≡ true → s ≡ Sent
    stage Ready e = no_true e refl
    stage Sent e = refl
    stage Held e = no_true e refl
    stage (Refused x) e = no_true e refl
    stage Cleared e = no_true e refl

rest-is : (r : Record) (n : ℕ) → r.number ≡ n → r ≡ record_at (of_record r) n r.kind r.stage
rest-is r n e = λ i.
    record { kind = r.kind; directory = r.directory; name = r.name; partition = r.partition; object = r.object; number = e i; stage = r.stage }

-- a message's way: a request from its giver, an answer to it
sides : (t : Body) (a b p q : ℕ) → giver t a b ≡ p → q ≡ holder t a b
    → ((is_request t ≡ true) × (a ≡ p) × (b ≡ q)) ⊎ ((is_request t ≡ false) × (a ≡ q) × (b ≡ p))
sides Request a b p q e f = inl (refl, e, sym f)
sides Yes a b p q e f = inr (refl, sym f, e)
sides No a b p q e f = inr (refl, sym f, e)
sides (NoBecause x) a b p q e f = inr (refl, sym f, e)

request-is : (t : Body) → is_request t ≡ true → t ≡ Request
request-is Request e = refl
request-is Yes e = no_true e refl
request-is No e = no_true e refl
request-is (NoBecause x) e = no_true e refl

absent : (m : Model) (p : ℕ) → length m.partitions ≤ p → partition m p ≡ no_partition
unfolding partition
absent m p h = get_or-eq_default m.partitions no_partition {n = p} h

module _ (m : Model) (o : in_order m ≡ true) where
  o1-holds : o1 m ≡ true
  unfolding in_order
  o1-holds = every-at _ o 0

  shape : Shape m
  unfolding o1
  shape = record { partitions = leb-true _ _ (every-at _ o1-holds 1); queues = eqb-true _ _ (every-at _ o1-holds 2) }

  some : 1 ≤ length m.partitions
  unfolding o1
  some = leb-true _ _ (every-at _ o1-holds 0)

  -- a queue from no partition is empty
  far : (a b : ℕ) → max_partitions ≤ a → queue m a b ≡ []
  unfolding queue
  far a b h = get_or-eq_default m.queues [] {n = a * max_partitions + b} (let e = shape.queues in omega arith)

  pair-at : (f : ℕ → ℕ → Bool) → each_pair f ≡ true → (a b : ℕ) → a < max_partitions → b < max_partitions → f a b ≡ true
  pair-at f h a b ha hb = below_at max_partitions (f a) (below_at max_partitions _ h a ha) b hb

  letter : (a b : ℕ) → a < max_partitions → b < max_partitions → (x : Message) → Memᴰ x (queue m a b) → has_record m a b x ≡ true
  unfolding in_order o6
  letter a b ha hb x i = all-get (has_record m a b) (queue m a b) (pair-at _ (and_left _ _ (every-at _ o 5)) a b ha hb) x i

  quiet : (a b : ℕ) → a < max_partitions → b < max_partitions → (partition m a).up && (partition m b).up ≡ false → queue m a b ≡ []
  unfolding in_order o7
  quiet a b ha hb t = is_none-true _ (or_right ((partition m a).up && (partition m b).up) (pair-at _ (and_left _ _ (every-at _ o 6)) a b ha hb) t)

  -- of each partition that is there
  module _ (p : ℕ) (h : p < length m.partitions) where
    in-range : partition_in_range m (partition m p) ≡ true
    unfolding o1
    in-range = below_at _ _ (every-at _ o1-holds 3) p h

    entries-apart : entries_apart (partition m p) ≡ true
    unfolding in_order o2
    entries-apart = below_at _ _ (every-at _ o 1) p h

    records-apart : records_apart (partition m p) ≡ true
    unfolding in_order o3
    records-apart = below_at _ _ (every-at _ o 2) p h

    backs-apart : backpointers_apart (partition m p) ≡ true
    unfolding in_order o4
    backs-apart = and_left _ _ (below_at _ _ (every-at _ o 3) p h)

    all-given : numbers_given m (partition m p) ≡ true
    unfolding in_order o4
    all-given = and_right (backpointers_apart (partition m p)) _ (below_at _ _ (every-at _ o 3) p h)

    room-kept : room_kept (partition m p) ≡ true
    unfolding in_order o5
    room-kept = below_at _ _ (every-at _ o 4) p h

    one_each : all (has_one_message m p) (partition m p).records ≡ true
    unfolding in_order o6
    one_each = below_at _ _ (and_right (each_pair (λ s r. all (has_record m s r) (queue m s r))) _ (every-at _ o 5)) p h

    up-or-ready : ((partition m p).up || all_ready (partition m p)) ≡ true
    unfolding in_order o7
    up-or-ready = below_at _ _ (and_right (each_pair (λ s r. (partition m s).up && (partition m r).up || is_none (queue m s r))) _ (every-at _ o 6)) p h

  -- in a partition that is not there, nothing is
  module _ (p : ℕ) where
    in-part : {A : Type 0} (g : Partition → List A) → g no_partition ≡ [] → (x : A) → Memᴰ x (g (partition m p)) → p < length m.partitions
    in-part g e x i = by_test (is_partition m p) (λ t. ltb-true _ _ t)
        (λ t. absurd (mathlib.Core.List.Memᴰ.not-nil (rw e at (rw (absent m p (ltb-false _ _ t)) at i))))

    entry_in : (e : Entry) → Memᴰ e (partition m p).entries → p < length m.partitions
    unfolding no_partition
    entry_in e i = in-part (λ (x : Partition). x.entries) refl e i

    record-in : (r : Record) → Memᴰ r (partition m p).records → p < length m.partitions
    unfolding no_partition
    record-in r i = in-part (λ (x : Partition). x.records) refl r i

    back_in : (b : Backpointer) → Memᴰ b (partition m p).backpointers → p < length m.partitions
    unfolding no_partition
    back_in b i = in-part (λ (x : Partition). x.backpointers) refl b i

    entry-fine : (e : Entry) → Memᴰ e (partition m p).entries → Fine m (of_entry e)
    unfolding partition_in_range
    entry-fine e i =
        let h : entry_in_range m e ≡ true = all-get (entry_in_range m) (partition m p).entries (every-at _ (in-range p (entry_in e i)) 4) e i in
        range-fine m (of_entry e) (and_left _ _ h) (and_right (in_range m e.directory e.partition e.object) _ h)

    entry-given : (e : Entry) → Memᴰ e (partition m p).entries → given_by (partition m p) e.number ≡ true
    unfolding numbers_given
    entry-given e i = all-get _ (partition m p).entries (every-at _ (all-given p (entry_in e i)) 0) e i

    back-fine : (b : Backpointer) → Memᴰ b (partition m p).backpointers → Fine m (of_backpointer p b)
    unfolding partition_in_range in_range
    back-fine b i =
        let h : backpointer_in_range m b ≡ true = all-get (backpointer_in_range m) (partition m p).backpointers
        (every-at _ (in-range p (back_in b i)) 5) b i in
        let r : in_range m b.directory b.parent b.object ≡ true = and_left _ _ h in
        record {
          partition = back_in b i;
          directory = ltb-true _ _ (every-at _ r 0);
          object = ltb-true _ _ (every-at _ r 2);
          name = and_right (in_range m b.directory b.parent b.object) _ h;
        }

    back-given : (b : Backpointer) → Memᴰ b (partition m p).backpointers → given_by (partition m b.parent) b.number ≡ true
    unfolding numbers_given
    back-given b i = all-get _ (partition m p).backpointers (every-at _ (all-given p (back_in b i)) 2) b i

    record-fact : (r : Record) → Memᴰ r (partition m p).records → record_in_range m r ≡ true
    unfolding partition_in_range
    record-fact r i = all-get (record_in_range m) (partition m p).records (every-at _ (in-range p (record-in r i)) 6) r i

    record-fine : (r : Record) → Memᴰ r (partition m p).records → Fine m (of_record r)
    record-fine r i =
        let h = record-fact r i in
        range-fine m (of_record r) (and_left _ _ h) (and_left _ _ (and_right (in_range m r.directory r.partition r.object) _ h))

    record-stage : (r : Record) → Memᴰ r (partition m p).records → stage_fits r.kind r.stage ≡ true
    record-stage r i = and_right (good_name r.name) _ (and_right (in_range m r.directory r.partition r.object) _ (record-fact r i))

    record-given : (r : Record) → Memᴰ r (partition m p).records → given_by (partition m p) r.number ≡ true
    unfolding numbers_given
    record-given r i = all-get _ (partition m p).records (every-at _ (all-given p (record-in r i)) 1) r i

    once-fact : (r : Record) → Memᴰ r (partition m p).records → has_one_message m p r ≡ true
    once-fact r i = all-get (has_one_message m p) (partition m p).records (one_each p (record-in r i)) r i

    -- O1, O2, O4, O5
    counts : (G : Partition → Type 0) → (p < length m.partitions → G (partition m p)) → G no_partition → G (partition m p)
    counts G f z = by_test (is_partition m p) (λ t. f (ltb-true _ _ t)) (λ t. rw (absent m p (ltb-false _ _ t)) z)

    few-names : (d : ℕ) (s : Name) → length (keep (stands_under d s) (partition m p).entries) ≤ 1
    unfolding no_partition keep
    few-names d s =
        counts (λ (x : Partition). length (keep (stands_under d s) x.entries) ≤ 1)
        (λ h. apart-few entries_clash (stands_under d s)
        (λ x y t u. let a = stands-true d s x t in or_left (stands_under x.directory x.name y) _ (rw (a.0, a.1) u)) (partition m p).entries
        (entries-apart p h)) (lit≤ tt)

    few-entries : (n : ℕ) → length (keep (entry_bears n) (partition m p).entries) ≤ 1
    unfolding no_partition keep
    few-entries n =
        counts (λ (x : Partition). length (keep (entry_bears n) x.entries) ≤ 1)
        (λ h. apart-few entries_clash (entry_bears n)
        (λ x y t u. or_else (stands_under x.directory x.name y) (λ v. rw (eqb-true x.number n t) u)) (partition m p).entries
        (entries-apart p h)) (lit≤ tt)

    few-records : (n : ℕ) → length (keep (record_bears n) (partition m p).records) ≤ 1
    unfolding no_partition keep
    few-records n =
        counts (λ (x : Partition). length (keep (record_bears n) x.records) ≤ 1)
        (λ h. apart-few records_clash (record_bears n) (λ x y t u. rw (eqb-true x.number n t) u) (partition m p).records (records-apart p h))
        (lit≤ tt)

    few-keys : (ob a d : ℕ) (s : Name) → length (keep (in_place ob a d s) (partition m p).backpointers) ≤ 1
    unfolding no_partition keep
    few-keys ob a d s =
        counts (λ (x : Partition). length (keep (in_place ob a d s) x.backpointers) ≤ 1)
        (λ h. apart-few backpointers_clash (in_place ob a d s)
        (λ x y t u. let q = place-true ob a d s x t in rw (q.0, q.1, q.2, q.3) u) (partition m p).backpointers (backs-apart p h)) (lit≤ tt)

    neat : Neat (partition m p)
    unfolding partition_in_range no_partition claimed keep
    neat =
        record {
          names = few-names;
          keys = few-keys;
          records = counts (λ (x : Partition). length x.records ≤ max_records) (λ h. leb-true _ _ (every-at _ (in-range p h) 3)) (lit≤ tt);
          backpointers = counts (λ (x : Partition). length x.backpointers ≤ max_backpointers) (λ h. leb-true _ _ (every-at _ (in-range p h) 2)) (lit≤ tt);
          claimed = counts (λ (x : Partition). claimed x ≤ max_entries) (λ h. leb-true _ _ (room-kept p h)) (lit≤ tt);
          last = counts (λ (x : Partition). x.last ≤ 4294967295) (λ h. leb-true _ _ (every-at _ (in-range p h) 0)) (lit≤ tt);
        }

    -- O7
    all-ready : (l : List Record) → all (λ r. is_ready r.stage) l ≡ true → keep unready l ≡ []
    all-ready l h = keep-nil unready l (λ r i t. no_true t (ap not (all-get (λ (r' : Record). is_ready r'.stage) l h r i)))

    down : (partition m p).up ≡ false → AtRest m p
    unfolding no_partition
    down u =
        record {
          ready = by_test (is_partition m p)
              (λ t. all-ready (partition m p).records (or_right (partition m p).up (up-or-ready p (ltb-true _ _ t)) u))
              (λ t. rw (absent m p (ltb-false _ _ t)) (unfold keep in refl));
          from = λ q h. by_test (ltb p max_partitions) (λ t. quiet p q (ltb-true _ _ t) h (rw u refl)) (λ t. far p q (ltb-false _ _ t));
          to = λ q h. by_test (ltb q max_partitions) (λ t. quiet q p (ltb-true _ _ t) h (rw u (and-false (partition m q).up))) (λ t. far q p (ltb-false _ _ t));
        }

  -- O6: a message about p's number n has its sent record
  record Sender (p n a b : ℕ) (x : Message) : Type 0 where
    is : Record
    here : Memᴰ is (keep (record_bears n) (partition m p).records)
    giver : giver x.body a b ≡ p
    holder : is.partition ≡ holder x.body a b
    sent : is_sent is.stage ≡ true
    matches : matches is x ≡ true
    body : body_fits x.kind x.body ≡ true

  sender : (p n a b : ℕ) → a < max_partitions → b < max_partitions → (x : Message) → Memᴰ x (queue m a b) → about a b p n x ≡ true → Sender p n a b x
  unfolding matches
  sender p n a b ha hb x i t =
      let ep : giver x.body a b ≡ p = eqb-true _ _ (and_left _ _ t) in
      let en : x.number ≡ n = eqb-true _ _ (and_right (eqb (giver x.body a b) p) _ t) in
      let l : has_record m a b x ≡ true = letter a b ha hb x i in
      let f : Record → Bool = sent_as x (holder x.body a b) in
      let z = any-mem f (partition m (giver x.body a b)).records (and_right (body_fits x.kind x.body) _ l) in
      let j : Memᴰ z.0 (partition m (giver x.body a b)).records = z.1 in
      let u : sent_as x (holder x.body a b) z.0 ≡ true = z.2 in
      let w : Rattle.protocol.specs.Order.matches z.0 x ≡ true = every-at _ u 2 in
      record {
        is = z.0;
        here = mem-keep (record_bears n) (partition m p).records z.0 (subst (λ (g : ℕ). Memᴰ z.0 (partition m g).records) ep j)
            (eq-eqb z.0.number n (sym (eqb-true _ _ (every-at _ w 0)) ∙ en));
        giver = ep;
        holder = eqb-true _ _ (every-at _ u 1);
        sent = every-at _ u 0;
        matches = w;
        body = and_left _ _ l;
      }

  module _ (p n : ℕ) where
    ent-fine : (e : Entry) → Memᴰ e (keep (entry_bears n) (partition m p).entries) → Fine m (of_entry e)
    ent-fine e i = entry-fine p e (keep-mem (entry_bears n) (partition m p).entries e i)

    bear-fine : (q : ℕ) (b : Backpointer) → Memᴰ b (keep (backpointer_bears p n) (partition m q).backpointers) → Fine m (of_backpointer q b)
    bear-fine q b i = back-fine q b (keep-mem (backpointer_bears p n) (partition m q).backpointers b i)

    -- messages of n stand nowhere
    no-mail : ((r : Record) → Memᴰ r (keep (record_bears n) (partition m p).records) → is_sent r.stage ≡ true → ⊥) → (a b : ℕ) → b < max_partitions
        → keep (about a b p n) (queue m a b) ≡ []
    no-mail h a b hb =
        by_test (ltb a max_partitions)
        (λ t. keep-nil (about a b p n) (queue m a b)
        (λ x i u. let s : Sender p n a b x = sender p n a b (ltb-true _ _ t) hb x i u in h s.is s.here s.sent))
        (λ t. rw (far a b (ltb-false _ _ t)) (unfold keep in refl))

    -- or only at one place
    module _ (g : Message → Bool) (u v : ℕ) (hu : u < max_partitions) (hv : v < max_partitions) (y : Message)
        (to : (a b : ℕ) → a < max_partitions → b < max_partitions → (x : Message) → Memᴰ x (queue m a b) → about a b p n x ≡ true → (a ≡ u) × (b ≡ v) × (g x ≡ true))
        (from : (x : Message) → g x ≡ true → about u v p n x ≡ true) (l : keep g (queue m u v) ≡ y ∷ []) where
      only_at : (a b : ℕ) → b < max_partitions → keep (about a b p n) (queue m a b) ≡ one (eqb a u && eqb b v) y
      only_at a b hb =
          by_test (eqb a u && eqb b v)
          (λ t. rw (t, eqb-true a u (and_left _ _ t), eqb-true b v (and_right (eqb a u) _ t))
          (keep_same (about u v p n) g (queue m u v) (λ x i. bool_same (about u v p n x) (g x) (λ e. (to u v hu hv x i e).2) (from x)) ∙ l))
          (λ t. rw t (by_test (ltb a max_partitions)
          (λ ta. keep-nil (about a b p n) (queue m a b)
          (λ x i e. let z = to a b (ltb-true _ _ ta) hb x i e in no_true (both_true (eq-eqb a u z.0) (eq-eqb b v z.1)) t))
          (λ ta. rw (far a b (ltb-false _ _ ta)) (unfold keep in refl))))

    fit : (c : Content) (w : Way) → Sound m c w → keep (record_bears n) (partition m p).records ≡ recs_of c n w
        → ((a b : ℕ) → b < max_partitions → keep (about a b p n) (queue m a b) ≡ letters c n p (mail_of w) a b) → Fit m p n
    fit c w s r f =
        record {
          what = c;
          way = w;
          entries = keep (entry_bears n) (partition m p).entries;
          backpointers = λ q. keep (backpointer_bears p n) (partition m q).backpointers;
          has = record { entries = refl; records = r; backpointers = λ q. refl; messages = f };
          sound = s;
          single = few-entries p n;
          entries_fine = ent-fine;
          backpointers_fine = bear-fine;
        }

    -- the only record of n
    module _ (r : Record) (e : keep (record_bears n) (partition m p).records ≡ r ∷ []) where
      here : Memᴰ r (partition m p).records
      here = seen-mem (record_bears n) (partition m p).records [] r e

      number : r.number ≡ n
      number = eqb-true _ _ (kept (record_bears n) (partition m p).records r [] e)

      fine : Fine m (of_record r)
      fine = record-fine p r here

      is-r : (r' : Record) → Memᴰ r' (keep (record_bears n) (partition m p).records) → r' ≡ r
      is-r r' i = mathlib.Core.List.Memᴰ.eq_of_singleton (rw e at i)

      resting : is_sent r.stage ≡ false → Fit m p n
      resting t = fit (of_record r) (rests r.kind r.stage) (fine, record-stage p r here, t)
          (e ∙ ap (λ (z : Record). z ∷ []) (rest-is r n number))
          (no-mail (λ r' i u. no_true (ap (λ (z : Record). is_sent z.stage) (sym (is-r r' i)) ∙ u) t))

      abbrev q : ℕ
      q = r.partition

      p4 : p < max_partitions
      p4 = four shape p (record-in p r here)

      q4 : q < max_partitions
      q4 = four shape q fine.partition

      module _ (t : is_sent r.stage ≡ true) where
        records : keep (record_bears n) (partition m p).records ≡ record_at (of_record r) n r.kind Sent ∷ []
        records = e ∙ ap (λ (z : Record). z ∷ []) (sent_is r n number t)

        -- a message is the request, or an answer
        sorted : (a b : ℕ) → a < max_partitions → b < max_partitions → (x : Message) → Memᴰ x (queue m a b) → about a b p n x ≡ true
            → ((is_request_of r x ≡ true) × (a ≡ p) × (b ≡ q)) ⊎ ((is_answer_to r x ≡ true) × (a ≡ q) × (b ≡ p))
        sorted a b ha hb x i u =
            let s : Sender p n a b x = sender p n a b ha hb x i u in
            let sr : s.is ≡ r = is-r s.is s.here in
            let o : matches r x ≡ true = ap (λ (z : Record). matches z x) (sym sr) ∙ s.matches in
            go o (sides x.body a b p q s.giver (ap (λ (z : Record). z.partition) (sym sr) ∙ s.holder))
          where
            go : matches r x ≡ true → ((is_request x.body ≡ true) × (a ≡ p) × (b ≡ q)) ⊎ ((is_request x.body ≡ false) × (a ≡ q) × (b ≡ p))
                → ((is_request_of r x ≡ true) × (a ≡ p) × (b ≡ q)) ⊎ ((is_answer_to r x ≡ true) × (a ≡ q) × (b ≡ p))
            go o (inl z) = inl (both_true z.0 o, z.1, z.2)
            go o (inr z) = inr (both_true (ap not z.0) o, z.1, z.2)

        out-way : (x : Message) → keep (is_request_of r) (queue m p q) ≡ x ∷ [] → keep (is_answer_to r) (queue m q p) ≡ [] → Fit m p n
        out-way x ea eb = fit (of_record r) (asking r.kind) fine records
            (λ a b hb. only_at (is_request_of r) p q p4 q4 x to (λ y u. rw number at (asks-about r p q y u)) ea a b hb ∙ ap
            (one (eqb a p && eqb b q)) is)
          where
            to : (a b : ℕ) → a < max_partitions → b < max_partitions → (y : Message) → Memᴰ y (queue m a b) → about a b p n y ≡ true
                → (a ≡ p) × (b ≡ q) × (is_request_of r y ≡ true)
            to a b ha hb y i u = elim (sorted a b ha hb y i u) [
              | inl z ↦ (z.1, z.2, z.0)
              | inr z ↦ absurd (mathlib.Core.List.Memᴰ.not-nil (rw eb at (mem-keep (is_answer_to r) (queue m q p) y (rw (z.1, z.2) at i) z.0)))
            ]

            a-true : is_request_of r x ≡ true
            a-true = kept (is_request_of r) (queue m p q) x [] ea

            is : x ≡ message_at (of_record r) n r.kind Request
            is = of_is r x (and_right (is_request x.body) _ a-true) ∙ ap₂ (λ (k : ℕ) (g : Body). message_at (of_record r) k r.kind g) number
                (request-is x.body (and_left _ _ a-true))

        home-way : (x : Message) → keep (is_request_of r) (queue m p q) ≡ [] → keep (is_answer_to r) (queue m q p) ≡ x ∷ [] → Fit m p n
        home-way x ea eb = fit (of_record r) (told r.kind x.body) (fine, tag-ok, not-request) records
            (λ a b hb. only_at (is_answer_to r) q p q4 p4 x to (λ y u. rw number at (answers-about r p q y u)) eb a b hb ∙ ap
            (one (eqb a q && eqb b p)) is)
          where
            to : (a b : ℕ) → a < max_partitions → b < max_partitions → (y : Message) → Memᴰ y (queue m a b) → about a b p n y ≡ true
                → (a ≡ q) × (b ≡ p) × (is_answer_to r y ≡ true)
            to a b ha hb y i u = elim (sorted a b ha hb y i u) [
              | inl z ↦ absurd (mathlib.Core.List.Memᴰ.not-nil (rw ea at (mem-keep (is_request_of r) (queue m p q) y (rw (z.1, z.2) at i) z.0)))
              | inr z ↦ (z.1, z.2, z.0)
            ]

            a-true : is_answer_to r x ≡ true
            a-true = kept (is_answer_to r) (queue m q p) x [] eb

            not-request : is_request x.body ≡ false
            not-request = not-true (is_request x.body) (λ u. no_true (and_left _ _ a-true) (ap not u))

            is : x ≡ message_at (of_record r) n r.kind x.body
            is = of_is r x (and_right (not (is_request x.body)) _ a-true) ∙ ap (λ (k : ℕ). message_at (of_record r) k r.kind x.body) number

            tag-ok : body_fits r.kind x.body ≡ true
            tag-ok = ap (λ (z : Message). body_fits z.kind x.body) (sym is) ∙ and_left _ _
                (letter q p q4 p4 x (seen-mem (is_answer_to r) (queue m q p) [] x eb))

        underway : Fit m p n
        underway = go (keep (is_request_of r) (queue m p q)) (keep (is_answer_to r) (queue m q p)) refl refl
            (eqb-true _ 1 (or_right (not (is_sent r.stage)) (once-fact p r here) (ap not t)))
          where
            go : (A B : List Message) → keep (is_request_of r) (queue m p q) ≡ A → keep (is_answer_to r) (queue m q p) ≡ B
                → length (keep (is_request_of r) (queue m p q)) + length (keep (is_answer_to r) (queue m q p)) ≡ 1 → Fit m p n
            go [] [] ea eb h = absurd (let a = ap length ea in let b = ap length eb in omega arith)
            go (x ∷ []) [] ea eb h = out-way x ea eb
            go (x ∷ y ∷ A) B ea eb h = absurd (let a = ap length ea in omega arith)
            go (x ∷ []) (y ∷ B) ea eb h = absurd (let a = ap length ea in let b = ap length eb in omega arith)
            go [] (x ∷ []) ea eb h = home-way x ea eb
            go [] (x ∷ y ∷ B) ea eb h = absurd (let b = ap length eb in omega arith)

    abbrev none-such : Content
    none-such = record { directory = 0; name = record { len = 0; bytes = [] }; partition = 0; object = 0 }

    local : Fit m p n
    local = go (keep (record_bears n) (partition m p).records) refl
      where
        go : (R : List Record) → keep (record_bears n) (partition m p).records ≡ R → Fit m p n
        go [] e = fit none-such idle tt e (no-mail (λ r i u. mathlib.Core.List.Memᴰ.not-nil (rw e at i)))
        go (r ∷ []) e = by_test (is_sent r.stage) (λ t. underway r e t) (λ t. resting r e t)
        go (r ∷ r' ∷ R) e = absurd (let a = few-records p n in let b = ap length e in omega arith)

    -- a number not given has nothing
    blank : given_by (partition m p) n ≡ false → Blank m p n
    blank h =
        let rs : keep (record_bears n) (partition m p).records ≡ [] = keep-nil (record_bears n) (partition m p).records
        (λ r i t. no_true (ap (given_by (partition m p)) (sym (eqb-true _ _ t)) ∙ record-given p r i) h) in
        record {
          entries = keep-nil (entry_bears n) (partition m p).entries
              (λ e i t. no_true (ap (given_by (partition m p)) (sym (eqb-true _ _ t)) ∙ entry-given p e i) h);
          records = rs;
          backpointers = λ q. keep-nil (backpointer_bears p n) (partition m q).backpointers (λ b i t.
              no_true (ap₂ (λ (x : ℕ) (y : ℕ). given_by (partition m x) y) (sym (eqb-true _ _ (and_left _ _ t)))
              (sym (eqb-true _ _ (and_right (eqb b.parent p) _ t))) ∙ back-given q b i) h);
          messages = no-mail (λ r i u. mathlib.Core.List.Memᴰ.not-nil (rw rs at i));
        }

  above : (p n : ℕ) → (partition m p).last < n → given_by (partition m p) n ≡ false
  unfolding given_by
  above p n h = not-true _ (λ t. let a = leb-true n (partition m p).last (and_right (leb 1 n) _ t) in omega arith)

  nought : (p : ℕ) → given_by (partition m p) 0 ≡ false
  unfolding given_by
  nought p = refl

  pub order-whole : Whole m
  order-whole =
      record {
        shape = shape;
        some = some;
        local = local;
        later = λ p n h. blank p n (above p n h);
        never = λ p. blank p 0 (nought p);
        neat = neat;
        downs = down;
      }
