-- What a received message does to stored tables, in plain variables.
use mathlib.Core.Bool.{true}
use mathlib.Core.List.{List, [], ◌++◌, ◌∷◌}
use mathlib.Core.Path.{◌∙◌, ◌≡◌, ap, refl, subst, sym}
use Prim.Native.Nat.{◌*◌, ◌+◌, ◌-◌, ◌<◌, ◌≤◌, ℕ}
use native.Mathlib.Omega.{arith}
use lib.ListN.{get_or, length, length-append, length-set, replicate, set}
use lib.Seq.{get_or-take}
use Rattle.lists.specs.Lists.{first_at, keep, map_if, pad, remove_at, without}
use Rattle.protocol.specs.Answers.{accept}
use Rattle.protocol.specs.Bounds.{max_backpointers, max_messages, max_partitions, max_records, queue_count}
use Rattle.protocol.specs.Deliver.{answer_to, backpointer_of, carry_out, is_exactly, land, receive, stage_after, verdict, verdict_of}
use Rattle.protocol.specs.Tables.{Model, add_backpointer, change_backpointers, drop_backpointer, in_stage, partition, queue, record_bears, send, set_queue, Partition as Part}
use Rattle.protocol.specs.declared.Backpointer.{Backpointer}
use Rattle.protocol.specs.declared.Body.{Body}
use Rattle.protocol.specs.declared.Body.TheVariants.{No, NoBecause, Request, Yes}
use Rattle.protocol.specs.declared.Message.{Message}
use Rattle.protocol.specs.declared.Reason.{Reason}
use Rattle.protocol.specs.declared.Record.{Record}
use Rattle.protocol.specs.declared.Reply.TheVariants.{None as NoReply}
use Rattle.std.specs.Prelude.{None, Option, Some}
use Rattle.protocol.specs.declared.Stage.{Stage}
use Rattle.protocol.specs.declared.Verdict.{Verdict}
use Rattle.protocol.specs.declared.Verdict.TheVariants.{AddsIt, DropsIt, SaysOnly}
use Rattle.tables.specs.Slots.{no_backpointer, no_record, zero_backpointer, zero_message, zero_record}
use Rattle.tables.specs.View.{Sized, Stored, backpointers_of, messages_of, no_queue, pack, pack_backpointers, pack_queue, pack_records, partition_at, queue_at, records_of, view, view_partition, Backpointers, Records, Queue}
use Rattle.tables.specs.declared.Partition.{Partition}
use Rattle.tables.specs.declared.Tables.{Tables}
use Rattle.answers.specs.Called.{stored}
use Rattle.answers.specs.Change.{Applies, applied, exchanges_with}
use Rattle.answers.specs.declared.Answered.{Answered}
use Rattle.answers.specs.declared.changes.Change.{Change}
use Rattle.deliveries.specs.Taken.{Answers, Lands, OneExactly, Received, Waits, taken_from}
use Rattle.lists.proofs.Fills.{take-pad}
use Rattle.lists.proofs.Finds.{found_below, found-changed, found-removed, none_kept}
use Rattle.lists.proofs.Images.{map_at}
use Rattle.lists.proofs.Places.{nothing_left}
use Rattle.protocol.proofs.Numbers.{part-queue}
use Rattle.tables.proofs.Stored.{backpointers-stored, packed-messages, records-stored, stored-queue}
use Rattle.tables.proofs.Views.{partition-there, queue-view, queues-view}
use Rattle.answers.proofs.Applied.{backpointers-exchange, exchanged-applies, messages-exchange, records-exchange, unsent}
use Rattle.verdicts.proofs.Verdicts.{adds-below}

-- ---- a list without what a request to remove is about

module _ (l : Backpointers) (s : ℕ) (x : Message) (f : Option ℕ) (e : f ≡ first_at (is_exactly s x) (backpointers_of l)) where
  pub exactly-none : pack_backpointers (backpointers_of l) ≡ l → f ≡ None → l ≡ pack_backpointers (without (is_exactly s x) (backpointers_of l))
  exactly-none p q = sym p ∙ ap pack_backpointers (sym (nothing_left (is_exactly s x) no_backpointer (backpointers_of l) (rw (none_kept (is_exactly s x) 0 (backpointers_of l) (sym e ∙ q)) (omega arith))).0)

  pub exactly-at : (i : ℕ) (k : Backpointers) → f ≡ Some i → k ≡ pack_backpointers (remove_at i (backpointers_of l))
      → length (keep (is_exactly s x) (backpointers_of l)) ≤ 1 → k ≡ pack_backpointers (without (is_exactly s x) (backpointers_of l))
  exactly-at i k q h o = h ∙ ap pack_backpointers (found-removed (is_exactly s x) no_backpointer (backpointers_of l) i (sym e ∙ q) o)

pub ruleset exactlies = (exactly-none, exactly-at)

-- ---- a list with a record in another stage

module _ (l : Records) (n : ℕ) (g : Stage) (f : Option ℕ) (e : f ≡ first_at (record_bears n) (records_of l)) where
  pub staged-none : pack_records (records_of l) ≡ l → f ≡ None → l ≡ pack_records (map_if (record_bears n) (in_stage g) (records_of l))
  staged-none p q = sym p ∙ ap pack_records (sym ((nothing_left (record_bears n) no_record (records_of l) (rw (none_kept (record_bears n) 0 (records_of l) (sym e ∙ q)) (omega arith))).1 (in_stage g)))

  pub staged-at : (i : ℕ) (k : Records) (c c' : Record) → f ≡ Some i → c ≡ get_or l.items i no_record → c' ≡ in_stage g c
      → k ≡ pack_records (set (records_of l) i c') → length (keep (record_bears n) (records_of l)) ≤ 1
      → k ≡ pack_records (map_if (record_bears n) (in_stage g) (records_of l))
  staged-at i k c c' q r h p o =
      let b : i < l.count = found_below (record_bears n) l.items l.count i f e q no_record in
      let v : c ≡ get_or (records_of l) i no_record = r ∙ sym (get_or-take l.count l.items i no_record b) in
      p ∙ ap (λ (y : Record). pack_records (set (records_of l) i y)) (h ∙ ap (in_stage g) v)
      ∙ ap pack_records (found-changed (record_bears n) no_record (records_of l) i (sym e ∙ q) o (in_stage g))

-- places that are found are below 64
pub few-records : (n : ℕ) → n ≤ max_records → n ≤ 64
few-records n h = omega arith

pub ruleset stagings = (staged-none, staged-at, few-records)

-- ---- stored tables: of the partition y that was read at r

-- a list in an array of N is of at most N
fits : {A : Type 0} (N : ℕ) (z : A) (l : List A) → length (pad N z l) ≡ N → length l ≤ N
unfolding pad
fits N z l h = let e = length-append l (replicate (N - length l) z) in omega (arith, h, e)

module _ (t : Tables) (r : ℕ) (o : Stored t r) (y : Partition) (e : y ≡ partition_at t r) where
  seen : partition (view t) r ≡ view_partition y
  seen = partition-there t r o.inside ∙ ap view_partition (sym e)

  pub here-backpointers : pack_backpointers (backpointers_of y.backpointers) ≡ y.backpointers
  here-backpointers = backpointers-stored t r o y e

  pub here-records : pack_records (records_of y.records) ≡ y.records
  here-records = records-stored t r o y e

  long-backpointers : length (backpointers_of y.backpointers) ≡ y.backpointers.count
  long-backpointers = ap (λ (l : Backpointers). l.count) here-backpointers

  module _ (z : Sized t) (h : r < max_partitions) where
    pub here-backpointers-most : y.backpointers.count ≤ max_backpointers
    here-backpointers-most =
        let n : length y.backpointers.items ≡ max_backpointers = rw e (z.partition r h).backpointers in
        rw (← long-backpointers) (fits max_backpointers zero_backpointer (backpointers_of y.backpointers) (ap (λ (l : Backpointers). length l.items) here-backpointers ∙ n))

    pub here-records-most : y.records.count ≤ max_records
    here-records-most =
        let n : length y.records.items ≡ max_records = rw e (z.partition r h).records in
        let c : length (records_of y.records) ≡ y.records.count = ap (λ (l : Records). l.count) here-records in
        rw (← c) (fits max_records zero_record (records_of y.records) (ap (λ (l : Records). length l.items) here-records ∙ n))

  -- the verdict is read off them; c is the sender's number
  module _ (s : ℕ) (x : Message) (c : ℕ) (k : c ≡ s) where
    pub verdict-read : (v : Verdict) → v ≡ verdict_of x.kind (backpointers_of y.backpointers) c x → v ≡ verdict (partition (view t) r) s x
    unfolding verdict
    verdict-read v h = h ∙ rw (k, seen) refl

    pub one-exactly-here : OneExactly t s r x → length (keep (is_exactly c x) (backpointers_of y.backpointers)) ≤ 1
    one-exactly-here h = rw k (subst (λ (p : Part). length (keep (is_exactly s x) p.backpointers) ≤ 1) seen h)

  pub add-room : (s : ℕ) (x : Message) → AddsIt ≡ verdict (partition (view t) r) s x → y.backpointers.count < max_backpointers
  unfolding verdict
  add-room s x h =
      let b : length (partition (view t) r).backpointers < max_backpointers = adds-below x.kind (partition (view t) r).backpointers s x h in
      rw (← long-backpointers) (subst (λ (p : Part). length p.backpointers < max_backpointers) seen b)

-- ---- the oldest message from s to r is taken; y is what was read at r, c the change

-- the queue from r to s is then as long as the model's
module _ (t : Tables) (z : Sized t) (s r : ℕ) (o : Waits t s r) where
  abbrev rest : Queue
  rest = pack_queue (remove_at 0 (messages_of (queue_at t (s * max_partitions + r))))

  left : record { count = t.count; partitions = t.partitions; queues = set t.queues (s * max_partitions + r) rest } ≡ pack (taken_from t s r)
  left =
      stored-queue t s r o.from o.to rest (packed-messages rest (remove_at 0 (messages_of (queue_at t (s * max_partitions + r)))) refl)
      ∙ ap (λ (l : List Message). pack (set_queue (view t) s r l)) (take-pad max_messages zero_message _ ∙ ap (remove_at 0) (sym (queue-view t s r)))

  left-count : (get_or (set t.queues (s * max_partitions + r) rest) (r * max_partitions + s) no_queue).count ≡ length (queue (taken_from t s r) r s)
  unfolding pack queue set_queue
  left-count =
      let a = o.sender in
      let b = o.receiver in
      let l : List (List Message) = (taken_from t s r).queues in
      let n : length l ≡ queue_count = length-set (view t).queues (s * max_partitions + r) _ ∙ queues-view t z in
      ap (λ (u : Tables). (get_or u.queues (r * max_partitions + s) no_queue).count) left
      ∙ ap (λ (q : Queue). q.count) (map_at pack_queue l (r * max_partitions + s) no_queue [] (rw n (omega arith)))

module _ (t : Tables) (z : Sized t) (s r : ℕ) (c : Change) (y : Partition) (n : ℕ) (g : Message) where
  pub said-applies : Answers t s r → c ≡ exchanges_with r s y n true (Some g) → Applies t c
  said-applies o e =
      let w = o.waits in
      exchanged-applies t w.ready r w.to.inside c s w.from.inside y n true (Some g) (record { some = λ k. w.some })
      (record { room = λ i k. rw (left-count t z s r w) o.room }) e

  pub landed-applies : (x : Message) → Lands t s r x → c ≡ exchanges_with r s y n true None → Applies t c
  landed-applies x o e =
      let w = o.waits in
      exchanged-applies t w.ready r w.to.inside c s w.from.inside y n true None (record { some = λ k. w.some }) (record { room = λ i k. unsent i k }) e

-- a request is answered

module _ (t : Tables) (s r : ℕ) (o : Answers t s r) (x : Message) (y : Partition) (e : y ≡ partition_at t r) (c : Change) where
  abbrev m : Model
  m = taken_from t s r

  here : Stored t r
  here = o.waits.to

  there : Stored t s
  there = o.waits.from

  pub said-sent : (b : Body) → c ≡ exchanges_with r s y x.number true (Some (answer_to x b)) → applied t c ≡ stored t (accept x.number NoReply (send m r s (answer_to x b)))
  said-sent b k = messages-exchange t r here y e s there true (Some (answer_to x b)) x.number c k

  -- d is the sender's number, l are the back-pointers of r after it
  module _ (d : ℕ) (q : d ≡ s) (l : Backpointers)
      (k : c ≡ exchanges_with r s (record { up = y.up; last = y.last; entries = y.entries; backpointers = l; records = y.records }) x.number true (Some (answer_to x Yes))) where
    changed-to : (f : List Backpointer → List Backpointer) → l ≡ pack_backpointers (f (backpointers_of y.backpointers))
        → applied t c ≡ stored t (accept x.number NoReply (send (change_backpointers m r f) r s (answer_to x Yes)))
    changed-to f h =
        backpointers-exchange t r here y e s there true (Some (answer_to x Yes)) x.number c f l (h ∙ ap (λ (p : Part). pack_backpointers (f p.backpointers)) (sym (seen t r here y e))) k

    pub added : (b : Backpointer) → b ≡ backpointer_of d x → l ≡ pack_backpointers (backpointers_of y.backpointers ++ b ∷ [])
        → applied t c ≡ stored t (accept x.number NoReply (carry_out m s r x AddsIt))
    unfolding carry_out
    added b w h =
        changed-to (λ j. j ++ b ∷ []) h
        ∙ ap (λ (i : Backpointer). stored t (accept x.number NoReply (send (add_backpointer m r i) r s (answer_to x Yes)))) (w ∙ ap (λ (i : ℕ). backpointer_of i x) q)

    pub removed : l ≡ pack_backpointers (without (is_exactly d x) (backpointers_of y.backpointers))
        → applied t c ≡ stored t (accept x.number NoReply (carry_out m s r x DropsIt))
    unfolding carry_out
    removed h =
        changed-to (without (is_exactly d x)) h
        ∙ ap (λ (i : ℕ). stored t (accept x.number NoReply (send (drop_backpointer m r (is_exactly i x)) r s (answer_to x Yes)))) q

pub ruleset sayings = (said-sent, said-applies)

pub ruleset backpointers-here = (here-backpointers, here-backpointers-most, add-room, one-exactly-here, added, removed, said-applies)

-- ---- by the verdict v; m are the tables without the message, a what is answered

pub verdict-told : (y : Part) (s : ℕ) (x : Message) (v g : Verdict) → v ≡ g → v ≡ verdict y s x → g ≡ verdict y s x
verdict-told y s x v g q h = sym q ∙ h

module _ (t : Tables) (m : Model) (s r n : ℕ) (x : Message) (v : Verdict) (a : Answered) where
  pub said : (b : Body) → v ≡ SaysOnly b → a ≡ stored t (accept n NoReply (send m r s (answer_to x b))) → a ≡ stored t (accept n NoReply (carry_out m s r x v))
  unfolding carry_out
  said b q h = h ∙ rw q refl

  pub carried : (g : Verdict) → v ≡ g → a ≡ stored t (accept n NoReply (carry_out m s r x g)) → a ≡ stored t (accept n NoReply (carry_out m s r x v))
  carried g q h = h ∙ ap (λ (j : Verdict). stored t (accept n NoReply (carry_out m s r x j))) (sym q)

  pub answered : (y : Part) → v ≡ verdict y s x → a ≡ stored t (accept n NoReply (carry_out m s r x v)) → a ≡ stored t (accept n NoReply (carry_out m s r x (verdict y s x)))
  answered y q h = h ∙ ap (λ (j : Verdict). stored t (accept n NoReply (carry_out m s r x j))) q

pub ruleset carryings = (said, verdict-told, carried)

pub ruleset answers = (here-backpointers, here-backpointers-most, verdict-read, answered)

-- ---- an answer lands

module _ (t : Tables) (s r : ℕ) (x : Message) (o : Lands t s r x) (y : Partition) (e : y ≡ partition_at t r) where
  pub land-single : length (keep (record_bears x.number) (records_of y.records)) ≤ 1
  land-single = subst (λ (p : Part). length (keep (record_bears x.number) p.records) ≤ 1) (seen t r o.waits.to y e) o.single

  pub landed : (g : Stage) (l : Records) (c : Change) → g ≡ stage_after x.kind x.body → l ≡ pack_records (map_if (record_bears x.number) (in_stage g) (records_of y.records))
      → c ≡ exchanges_with r s (record { up = y.up; last = y.last; entries = y.entries; backpointers = y.backpointers; records = l }) x.number true None
      → applied t c ≡ stored t (accept x.number NoReply (land (taken_from t s r) r x))
  landed g l c q h a =
      records-exchange t r o.waits.to y e s o.waits.from true None x.number c
      (map_if (record_bears x.number) (in_stage (stage_after x.kind x.body))) l
      (h ∙ ap (λ (j : Stage). pack_records (map_if (record_bears x.number) (in_stage j) (records_of y.records))) q
      ∙ ap (λ (p : Part). pack_records (map_if (record_bears x.number) (in_stage (stage_after x.kind x.body)) p.records)) (sym (seen t r o.waits.to y e))) a

pub ruleset landings = (here-records, here-records-most, land-single, landed, landed-applies)

-- ---- by what the message says

module _ (t : Tables) (s r n : ℕ) (x : Message) where
  pub request-answers : Received t s r x → x.body ≡ Request → Answers t s r
  request-answers o q = o.answers (rw q refl)

  module _ (a : Answered) where
    abbrev Lands-so : Type 0
    Lands-so = a ≡ stored t (accept n NoReply (land (taken_from t s r) r x))

    abbrev Goal : Type 0
    Goal = a ≡ stored t (accept n NoReply (receive x.body (taken_from t s r) s r x))

    pub received-request : x.body ≡ Request → a ≡ stored t (accept n NoReply (carry_out (taken_from t s r) s r x (verdict (partition (view t) r) s x))) → Goal
    received-request q h =
        h ∙ ap (λ (y : Part). stored t (accept n NoReply (carry_out (taken_from t s r) s r x (verdict y s x)))) (sym (part-queue (view t) s r (remove_at 0 (queue (view t) s r)) r)) ∙ rw q refl

    pub received-yes : x.body ≡ Yes → Lands-so → Goal
    received-yes q h = h ∙ rw q refl

    pub received-no : x.body ≡ No → Lands-so → Goal
    received-no q h = h ∙ rw q refl

    pub received-because : (why : Reason) → x.body ≡ NoBecause why → Lands-so → Goal
    received-because why q h = h ∙ rw q refl

pub ruleset receipts = (request-answers, received-request, received-yes, received-no, received-because)
