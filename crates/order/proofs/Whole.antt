-- The clauses are together the order of document 01's definition: what they say of each partition and of each pair.
use mathlib.Core.Bool.{Bool, ◌&&◌, ◌||◌, not, true}
use mathlib.Core.List.{List, Memᴰ}
use mathlib.Core.Path.{◌∙◌, ◌≡◌, ap, refl, subst, sym}
use Prim.Native.Nat.{◌+◌, ◌<◌, ◌≤◌, ℕ}
use native.Mathlib.Omega.{arith}
use lib.Dec.{eqb, leb, ltb}
use lib.ListN.{get_or, length}
use lib.Seq.{length-take-le}
use borrow.Author.Tests.{eq-eqb, eqb-true, le-leb, leb-true, ltb-false, ltb-true}
use Rattle.lists.specs.Lists.{all, any, below, is_none, keep, pick}
use Rattle.protocol.specs.Bounds.{largest_number, max_backpointers, max_entries, max_messages, max_partitions, max_records, queue_count}
use Rattle.protocol.specs.Elements.{body_fits, is_request, is_sent}
use Rattle.protocol.specs.Order.{o1, o2, o3, o4, o5, o6, o7, all_ready, backpointers_apart, each_pair, entries_apart, given_by, giver, has_one_message, has_record, holder, in_order, in_range, is_answer_to, is_request_of, numbers_given, partition_in_range, record_in_range, records_apart, room_kept, sent_as}
use Rattle.protocol.specs.declared.Backpointer.{Backpointer}
use Rattle.protocol.specs.declared.Body.{Body}
use Rattle.protocol.specs.declared.Body.TheVariants.{No, NoBecause, Request, Yes}
use Rattle.protocol.specs.declared.Entry.{Entry}
use Rattle.protocol.specs.declared.Message.{Message}
use Rattle.protocol.specs.declared.Record.{Record}
use Rattle.tables.specs.View.{SizedPartition, messages_of, shaped_partition, shaped_queue, view_partition, Queue}
use Rattle.tables.specs.declared.Partition.{Partition}
use Rattle.partitions.specs.Clauses.{backpointer_among, backpointer_given, backpointers_fine, entries_fine, entry_among, given, partition_fine, placed_among, record_among, records_fine, room_in}
use Rattle.messages.specs.Clauses.{message_fine, pair_fine, record_answered}
use Rattle.lists.proofs.Alls.{all_both, all_first, all-second}
use Rattle.lists.proofs.Members.{all-get, all_true}
use Rattle.lists.proofs.Tests.{◌also◌, and_left, and_right, below_at, below_true, both_true, by_test, done, eqb_same, every-at, every_of, or_else, or_right}
use Rattle.tables.proofs.Views.{past-view, ranged}
use Rattle.partitions.proofs.Laws.{fine-shaped}
use Rattle.protocol.specs.Tables.{Partition as Part, Model, partition, queue, partition_count, claimed, no_partition as no_part}

-- ---- one partition

pub record PartitionOrder (m : Model) (x : Part) : Type 0 where
  pub range : partition_in_range m x ≡ true
  pub entries : entries_apart x ≡ true
  pub records : records_apart x ≡ true
  pub backpointers : backpointers_apart x ≡ true
  pub given : numbers_given m x ≡ true
  pub room : room_kept x ≡ true
  pub ready : (x.up || all_ready x) ≡ true

record Within (x : Part) : Type 0 where
  last : x.last ≤ largest_number
  entries : length x.entries ≤ max_entries
  backpointers : length x.backpointers ≤ max_backpointers
  records : length x.records ≤ max_records

within : (p : Partition) → SizedPartition p → shaped_partition p ≡ true → Within (view_partition p)
within p z h =
    let r = ranged p h in
    record {
      last = z.last;
      entries = rw (length-take-le p.entries.count p.entries.items (omega (arith, r.entries, z.entries))) r.entries;
      backpointers = rw (length-take-le p.backpointers.count p.backpointers.items (omega (arith, r.backpointers, z.backpointers))) r.backpointers;
      records = rw (length-take-le p.records.count p.records.items (omega (arith, r.records, z.records))) r.records;
    }

module _ (m : Model) (ls : List ℕ) (same : (i : ℕ) → get_or ls i 0 ≡ (partition m i).last) where
  by-parent : ◌≡◌ {A = Backpointer → Bool} (backpointer_given ls) (λ b. given_by (partition m b.parent) b.number)
  unfolding backpointer_given given given_by
  by-parent = λ j b. leb 1 b.number && leb b.number (same b.parent j)

  -- the lists, where all that a clause asks for is known
  pub fine_of : (p : Partition) → shaped_partition p ≡ true → PartitionOrder m (view_partition p) → partition_fine (partition_count m) ls p ≡ true
  unfolding partition_fine entries_fine backpointers_fine records_fine shaped_partition room_in claimed partition_in_range numbers_given given_by given entry_among backpointer_among record_among placed_among in_range
  fine_of p z o =
      let x = view_partition p in
      let a = every-at _ o.range in
      let g = every-at _ o.given in
      let s = every-at _ z in
      let b : all (backpointer_given ls) x.backpointers ≡ true = ap (λ (f : Backpointer → Bool). all f x.backpointers) by-parent ∙ g 2 in
      every_of _
      (every_of _ (s 0 also all_both (entry_among (partition_count m)) (λ (e : Entry). given x.last e.number) x.entries (a 4) (g 0) also o.entries also done)
      also every_of _ (s 1 also all_both (backpointer_among (partition_count m)) (backpointer_given ls) x.backpointers (a 5) b also o.backpointers also done)
      also every_of _ (s 2 also all_both (record_among (partition_count m)) (λ (r : Record). given x.last r.number) x.records (a 6) (g 1) also o.records also done)
      also o.room
      also o.ready
      also done)

  pub order-of : (p : Partition) → SizedPartition p → partition_fine (partition_count m) ls p ≡ true → PartitionOrder m (view_partition p)
  unfolding partition_fine entries_fine backpointers_fine records_fine room_in claimed partition_in_range numbers_given given_by given entry_among backpointer_among record_among placed_among in_range
  order-of p z h =
      let x = view_partition p in
      let n = partition_count m in
      let a = every-at _ (every-at _ h 0) in
      let b = every-at _ (every-at _ h 1) in
      let c = every-at _ (every-at _ h 2) in
      let w = within p z (fine-shaped n ls p h) in
      let g : all (λ (y : Backpointer). given_by (partition m y.parent) y.number) x.backpointers ≡ true =
      ap (λ (f : Backpointer → Bool). all f x.backpointers) (sym by-parent) ∙ all-second (backpointer_among n) (backpointer_given ls) x.backpointers (b 1)
      in
      record {
        range =
            every_of _
            (le-leb _ _ w.last
            also le-leb _ _ w.entries
            also le-leb _ _ w.backpointers
            also le-leb _ _ w.records
            also all_first (entry_among n) (λ (e : Entry). given x.last e.number) x.entries (a 1)
            also all_first (backpointer_among n) (backpointer_given ls) x.backpointers (b 1)
            also all_first (record_among n) (λ (r : Record). given x.last r.number) x.records (c 1)
            also done);
        entries = a 2;
        records = c 2;
        backpointers = b 2;
        given =
            every_of _
            (all-second (entry_among n) (λ (e : Entry). given x.last e.number) x.entries (a 1)
            also all-second (record_among n) (λ (r : Record). given x.last r.number) x.records (c 1)
            also g
            also done);
        room = every-at _ h 3;
        ready = every-at _ h 4;
      }

-- ---- one pair

pub record PairOrder (m : Model) (s r : ℕ) : Type 0 where
  pub quiet : ((partition m s).up && (partition m r).up || is_none (queue m s r)) ≡ true
  pub messages : all (has_record m s r) (queue m s r) ≡ true
  pub records : all (record_answered r (queue m s r) (queue m r s)) (partition m s).records ≡ true

module _ (m : Model) (s r : ℕ) where
  by-body : ◌≡◌ {A = Message → Bool} (has_record m s r) (message_fine (partition m s).records (partition m r).records s r)
  unfolding message_fine
  by-body = λ j x. go x x.body j
    where
      go : (x : Message) (b : Body) → (body_fits x.kind b && any (sent_as x (holder b s r)) (partition m (giver b s r)).records) ≡ (body_fits x.kind b && pick (is_request b) (any (sent_as x r) (partition m s).records) (any (sent_as x s) (partition m r).records))
      go x Request = refl
      go x Yes = refl
      go x No = refl
      go x (NoBecause why) = refl

  -- stored, the queues are q and back
  module _ (q back : Queue) (e : queue m s r ≡ messages_of q) (f : queue m r s ≡ messages_of back) where
    abbrev PairTest : Type 0
    PairTest = pair_fine ((partition m s).up && (partition m r).up) (partition m s).records (partition m r).records s r q back ≡ true

    pub pair-test : shaped_queue q ≡ true → back.count ≤ max_messages → PairOrder m s r → PairTest
    unfolding pair_fine
    pair-test y z o =
        let a : all (message_fine (partition m s).records (partition m r).records s r) (messages_of q) ≡ true = rw (← e) (ap (λ (g : Message → Bool). all g (queue m s r)) (sym by-body) ∙ o.messages) in
        let u : ((partition m s).up && (partition m r).up || is_none (messages_of q)) ≡ true = rw (← e) o.quiet in
        let v : all (record_answered r (messages_of q) (messages_of back)) (partition m s).records ≡ true = rw (← e, ← f) o.records in
        every_of _ (y also le-leb _ _ z also u also a also v also done)

    pub pair-order : PairTest → PairOrder m s r
    unfolding pair_fine
    pair-order h =
        let a : all (message_fine (partition m s).records (partition m r).records s r) (queue m s r) ≡ true = rw e (every-at _ h 3) in
        record { quiet = rw e (every-at _ h 2); messages = ap (λ (g : Message → Bool). all g (queue m s r)) by-body ∙ a; records = rw (e, f) (every-at _ h 4) }

-- a record has its one message, or has it in the queues of the pair that it belongs to
one-answered : (m : Model) (s r : ℕ) (x : Record) → has_one_message m s x ≡ true → record_answered r (queue m s r) (queue m r s) x ≡ true
unfolding record_answered
one-answered m s r x h =
    or_else (not (is_sent x.stage))
    (λ u. by_test (eqb x.partition r)
    (λ t.
    let e = or_right (not (is_sent x.stage)) h u in
    let f : eqb (length (keep (is_request_of x) (queue m s r)) + length (keep (is_answer_to x) (queue m r s))) 1 ≡ true =
    subst (λ (q : ℕ). eqb (length (keep (is_request_of x) (queue m s q)) + length (keep (is_answer_to x) (queue m q s))) 1 ≡ true) (eqb-true x.partition r t) e
    in
    rw t f)
    (λ t. rw t refl))

answered-one : (m : Model) (s : ℕ) (x : Record) → record_answered x.partition (queue m s x.partition) (queue m x.partition s) x ≡ true → has_one_message m s x ≡ true
unfolding record_answered
answered-one m s x h =
    or_else (not (is_sent x.stage))
    (λ u. or_right (not (eqb x.partition x.partition)) (or_right (not (is_sent x.stage)) h u) (ap not (eqb_same x.partition)))

-- ---- the whole

pub record Pieces (m : Model) : Type 0 where
  pub some : 1 ≤ partition_count m
  pub count : partition_count m ≤ max_partitions
  pub queues : length m.queues ≡ queue_count
  pub partition : (p : ℕ) → p < partition_count m → PartitionOrder m (partition m p)
  pub room : (s r : ℕ) → s < max_partitions → r < max_partitions → length (queue m s r) ≤ max_messages
  pub pair : (s r : ℕ) → s < max_partitions → r < max_partitions → PairOrder m s r

each-pair : (f : ℕ → ℕ → Bool) → ((s r : ℕ) → s < max_partitions → r < max_partitions → f s r ≡ true) → each_pair f ≡ true
each-pair f h = below_true max_partitions _ (λ s a. below_true max_partitions (f s) (λ r b. h s r a b))

pair-each : (f : ℕ → ℕ → Bool) → each_pair f ≡ true → (s r : ℕ) → s < max_partitions → r < max_partitions → f s r ≡ true
pair-each f h s r a b = below_at max_partitions (f s) (below_at max_partitions _ h s a) r b

-- a record of a partition that is there is sent towards one of four
towards : (m : Model) (x : Part) → partition_in_range m x ≡ true → (r : Record) → Memᴰ r x.records → r.partition < partition_count m
unfolding partition_in_range in_range
towards m x h r i =
    let a = all-get (record_in_range m) x.records (every-at _ h 6) r i in
    ltb-true r.partition (partition_count m) (every-at _ (and_left _ _ a) 1)

pub order-whole : (m : Model) → Pieces m → in_order m ≡ true
unfolding in_order o1 o2 o3 o4 o5 o6 o7
order-whole m w =
    let n = partition_count m in
    let o = w.partition in
    let one : (p : ℕ) → p < n → all (has_one_message m p) (partition m p).records ≡ true =
    λ p h. all_true (has_one_message m p) (partition m p).records
    (λ r i.
    let t = towards m (partition m p) (o p h).range r i in
    answered-one m p r (all-get (record_answered r.partition (queue m p r.partition) (queue m r.partition p)) (partition m p).records (w.pair p r.partition (omega (arith, w.count)) (omega (arith, w.count))).records r i))
    in
    every_of _
    (every_of _
    (le-leb _ _ w.some
    also le-leb _ _ w.count
    also eq-eqb _ _ w.queues
    also below_true n _ (λ p h. (o p h).range)
    also each-pair _ (λ s r a b. le-leb _ _ (w.room s r a b))
    also done)
    also below_true n _ (λ p h. (o p h).entries)
    also below_true n _ (λ p h. (o p h).records)
    also below_true n _ (λ p h. both_true (o p h).backpointers (o p h).given)
    also below_true n _ (λ p h. (o p h).room)
    also both_true (each-pair _ (λ s r a b. (w.pair s r a b).messages)) (below_true n _ one)
    also both_true (each-pair _ (λ s r a b. (w.pair s r a b).quiet)) (below_true n _ (λ p h. (o p h).ready))
    also done)

pub whole-pieces : (m : Model) → in_order m ≡ true → Pieces m
unfolding in_order o1 o2 o3 o4 o5 o6 o7 no_part
whole-pieces m h =
    let n = partition_count m in
    let o1-holds = every-at _ (every-at _ h 0) in
    let at : (f : ℕ → Bool) → below n f ≡ true → (p : ℕ) → p < n → f p ≡ true = λ f e p l. below_at n f e p l in
    let o4-holds = at _ (every-at _ h 3) in
    let o6-holds = every-at _ h 5 in
    let o7-holds = every-at _ h 6 in
    let answered : (s r : ℕ) → all (record_answered r (queue m s r) (queue m r s)) (partition m s).records ≡ true =
    λ s r. by_test (ltb s n)
    (λ t. all_true _ (partition m s).records (λ x i. one-answered m s r x (all-get (has_one_message m s) (partition m s).records (at _ (and_right (each_pair (λ a b. all (has_record m a b) (queue m a b))) _ o6-holds) s (ltb-true s n t)) x i)))
    (λ t. rw (past-view m s (ltb-false s n t)) (unfold all in refl))
    in
    record {
      some = leb-true _ _ (o1-holds 0);
      count = leb-true _ _ (o1-holds 1);
      queues = eqb-true _ _ (o1-holds 2);
      partition = λ p l.
          record {
            range = at _ (o1-holds 3) p l;
            entries = at _ (every-at _ h 1) p l;
            records = at _ (every-at _ h 2) p l;
            backpointers = and_left _ _ (o4-holds p l);
            given = and_right (backpointers_apart (partition m p)) _ (o4-holds p l);
            room = at _ (every-at _ h 4) p l;
            ready = at _ (and_right (each_pair (λ s r. (partition m s).up && (partition m r).up || is_none (queue m s r))) _ o7-holds) p l;
          };
      room = λ s r a b. leb-true _ _ (pair-each (λ s r. leb (length (queue m s r)) max_messages) (o1-holds 4) s r a b);
      pair = λ s r a b.
          record {
            quiet = pair-each (λ s r. (partition m s).up && (partition m r).up || is_none (queue m s r)) (and_left _ _ o7-holds) s r a b;
            messages = pair-each (λ s r. all (has_record m s r) (queue m s r)) (and_left _ _ o6-holds) s r a b;
            records = answered s r;
          };
    }
