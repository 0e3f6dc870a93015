-- What a change gives when it is stored, in plain variables.
use mathlib.Core.Bool.{Bool, false}
use mathlib.Core.List.{List, [], ◌++◌, ◌∷◌, map}
use mathlib.Core.Path.{◌∙◌, ◌≡◌, ap, refl, sym}
use Prim.Native.Nat.{◌*◌, ◌+◌, ◌<◌, ◌≤◌, ℕ}
use native.Mathlib.Omega.{arith}
use lib.Dec.{eqb}
use lib.ListN.{get_or-map, get_or, length, length-map, set}
use lib.Seq.{get_or-set_other, get_or-set_same}
use Rattle.lists.specs.Lists.{pick, remove_at}
use Rattle.lists.proofs.Tests.{by_test, no_true}
use borrow.Author.Tests.{eqb-false, eqb-true}
use Rattle.protocol.specs.Bounds.{max_messages, max_partitions}
use Rattle.protocol.specs.declared.Message.{Message}
use Rattle.tables.specs.View.{Sized, Stored, messages_of, no_partition, no_queue, pack, pack_backpointers, pack_entries, pack_partition, pack_queue, pack_records, partition_at, queue_at, view, Entries, Backpointers, Records, Queue}
use Rattle.tables.specs.declared.Tables.{Tables}
use Rattle.tables.proofs.Stored.{packed-messages, partition-stored, set-stored, stored-queue}
use Rattle.tables.proofs.Views.{queue-view}
use Rattle.lists.proofs.Fills.{take-pad}
use Rattle.tables.specs.Slots.{zero_message}
use Rattle.protocol.specs.Tables.{Model, change_backpointers, change_entries, change_records, partition, queue, send, set_partition, set_queue, with_backpointers, with_entries, with_records, no_partition as no_part, Partition as Part}
use Rattle.protocol.specs.declared.Backpointer.{Backpointer}
use Rattle.protocol.specs.declared.Entry.{Entry}
use Rattle.protocol.specs.declared.Record.{Record}
use Rattle.protocol.specs.Answers.{Outcome, accept}
use Rattle.protocol.specs.declared.Refusal.{Refusal}
use Rattle.protocol.specs.declared.Refusal.TheVariants.{Accepted}
use Rattle.protocol.specs.declared.Reply.{Reply}
use Rattle.protocol.specs.declared.Reply.TheVariants.{None as NoReply}
use Rattle.std.specs.Prelude.{Option, Some, None}
use Rattle.lists.proofs.Backs.{set_back}
use Rattle.tables.specs.declared.Partition.{Partition}
use Rattle.answers.specs.Called.{Answered, Ready, refused_with, stored}
use Rattle.answers.specs.Change.{Applies, Change, Sends, Takes, applied, changed, changes_with, exchanges_with, from_other, keeps_with, sent_if, taken_if, taken_queues, to_other}
use Rattle.lists.proofs.Images.{map_at}
use Rattle.answers.proofs.Ways.{read-four, ready-stored}
use Rattle.lists.proofs.Tidies.{tidy-count}
use Rattle.tables.proofs.Packs.{shaped-all, view-pack}
use Rattle.tables.specs.Slots.{free_message}

-- ---- the queue from a to b, which was read as y

module _ (t : Tables) (z : Sized t) (a b : ℕ) (s : Stored t a) (r : Stored t b) (y : Queue) (v : y ≡ queue_at t (a * max_partitions + b)) where
  waiting : messages_of y ≡ queue (view t) a b
  waiting = ap messages_of v ∙ sym (queue-view t a b)

  pub queue-stored : pack_queue (messages_of y) ≡ y
  unfolding pack view
  queue-stored =
      let i : ℕ = a * max_partitions + b in
      let k : i < length t.queues = let h = s.inside in let g = s.count in let f = r.inside in rw z.queues (omega arith) in
      let q : pack_queue (messages_of (queue_at t i)) ≡ get_or (map pack_queue (map messages_of t.queues)) i no_queue =
      sym (map_at pack_queue (map messages_of t.queues) i no_queue [] (rw (length-map t.queues messages_of) k) ∙ ap pack_queue (get_or-map messages_of t.queues i no_queue))
      in
      rw v (q ∙ ap (λ (u : Tables). get_or u.queues i no_queue) s.packed)

  pub queue-few : length (queue (view t) a b) < max_messages → y.count < max_messages
  queue-few h = let e : y.count ≡ length (messages_of y) = ap (λ (q : Queue). q.count) (sym queue-stored) in let g : length (messages_of y) < max_messages = rw waiting h in omega (arith, e)

-- ---- where a change is stored

-- q and g are the queues that were read, r and y what was stored in their places
pub change-stores : (t : Tables) (c : Change) (q : Queue) → q ≡ get_or t.queues (from_other c) no_queue → (r : Queue) → r ≡ taken_if c.takes q
    → (g : Queue) → g ≡ get_or (set t.queues (from_other c) r) (to_other c) no_queue → (y : Queue) → y ≡ sent_if c.sends g
    → record { count = t.count; partitions = set t.partitions c.at c.partition; queues = set (set t.queues (from_other c) r) (to_other c) y } ≡ changed t c
unfolding changed
change-stores t c q f r h g v y w = rw (w, v, h, f) refl

ready-most : (t : Tables) → Sized t → Ready t → (a b : ℕ) → a < max_partitions → b < max_partitions → (q : Queue) → q ≡ get_or t.queues (a * max_partitions + b) no_queue → q.count ≤ max_messages
ready-most t z r a b ha hb q e = rw e (let y : Queue = get_or t.queues (a * max_partitions + b) no_queue in tidy-count max_messages free_message y.count y.items ((shaped-all t z r.shaped).queue (a * max_partitions + b) (omega arith)))

module _ (t : Tables) (z : Sized t) (c : Change) (h : Applies t c) where
  pub apply_at : c.at < max_partitions
  apply_at = read-four t c.at z h.ready h.at

  pub apply-other : c.other < max_partitions
  apply-other = read-four t c.other z h.ready h.other

  here : Stored t c.at
  here = ready-stored t c.at z h.ready h.at

  there : Stored t c.other
  there = ready-stored t c.other z h.ready h.other

  abbrev Packed : Queue → Type 0
  Packed q = pack_queue (messages_of q) ≡ q

  -- the queue from the other partition, which was read as q
  module _ (q : Queue) (e : q ≡ get_or t.queues (from_other c) no_queue) where
    pub from-packed : Packed q
    from-packed = queue-stored t z c.other c.at there here q e

    pub from-most : q.count ≤ max_messages
    from-most = ready-most t z h.ready c.other c.at apply-other apply_at q e

    pub from_some : Takes c.takes q
    from_some = rw e h.takes

    module _ (r : Queue) (f : r ≡ taken_if c.takes q) where
      taken : set t.queues (from_other c) r ≡ taken_queues t c
      taken = rw (f, e) refl

      r-packed : Packed r
      r-packed = by_test c.takes (λ k. packed-messages r (remove_at 0 (messages_of q)) (f ∙ rw k refl)) (λ k. rw (f, k) from-packed)

      -- the queue to it, after that
      module _ (g : Queue) (v : g ≡ get_or (set t.queues (from_other c) r) (to_other c) no_queue) where
        pub to-packed : Packed g
        to-packed =
            by_test (eqb (to_other c) (from_other c))
            (λ k. rw (v, eqb-true (to_other c) (from_other c) k, get_or-set_same t.queues (from_other c) r no_queue (let a = apply_at in let b = apply-other in rw z.queues (omega arith))) r-packed)
            (λ k. rw (v, get_or-set_other t.queues (from_other c) (to_other c) r no_queue (eqb-false (to_other c) (from_other c) k)) (queue-stored t z c.at c.other here there (get_or t.queues (to_other c) no_queue) refl))

        pub to_room : Sends c.sends g
        to_room = rw (v, taken) h.sends

        pub apply-stores : (y : Queue) → y ≡ sent_if c.sends g
            → record { answer = c.answer; tables = record { count = t.count; partitions = set t.partitions c.at c.partition; queues = set (set t.queues (from_other c) r) (to_other c) y } } ≡ applied t c
        unfolding applied
        apply-stores y w = ap (λ (u : Tables). record { answer = c.answer; tables = u }) (change-stores t c q e r f g v y w)

pub ruleset applying = (apply_at, apply-other, from-packed, from-most, from_some, to-packed, to_room, apply-stores)

-- what is stored is the answer of the definition
pub apply-gives : (t : Tables) (c : Change) (o : Outcome) (a : Answered) → a ≡ applied t c → applied t c ≡ stored t o → a ≡ stored t o
apply-gives t c o a e h = e ∙ h

pub ruleset apply-change = (apply_at, apply-other, apply-gives)

-- ---- the model of the tables after a change

abbrev pub taken_model : Bool → Model → ℕ → ℕ → Model
taken_model b m s r = pick b (set_queue m s r (remove_at 0 (queue m s r))) m

abbrev pub sent_model : Option Message → Model → ℕ → ℕ → Model
sent_model None m s r = m
sent_model (Some x) m s r = send m s r x

taken-stored : (t : Tables) (s r : ℕ) → Stored t s → Stored t r
    → record { count = t.count; partitions = t.partitions; queues = set t.queues (s * max_partitions + r) (pack_queue (remove_at 0 (messages_of (queue_at t (s * max_partitions + r))))) }
    ≡ pack (set_queue (view t) s r (remove_at 0 (queue (view t) s r)))
taken-stored t s r a b =
    stored-queue t s r a b _ (packed-messages _ (remove_at 0 (messages_of (queue_at t (s * max_partitions + r)))) refl)
    ∙ ap (λ (l : List Message). pack (set_queue (view t) s r l)) (take-pad max_messages zero_message _ ∙ ap (remove_at 0) (sym (queue-view t s r)))

sent-stored : (t : Tables) (s r : ℕ) → Stored t s → Stored t r → (x : Message)
    → record { count = t.count; partitions = t.partitions; queues = set t.queues (s * max_partitions + r) (pack_queue (messages_of (queue_at t (s * max_partitions + r)) ++ x ∷ [])) }
    ≡ pack (send (view t) s r x)
unfolding send
sent-stored t s r a b x =
    stored-queue t s r a b _ (packed-messages _ (messages_of (queue_at t (s * max_partitions + r)) ++ x ∷ []) refl)
    ∙ ap (λ (l : List Message). pack (set_queue (view t) s r l)) (take-pad max_messages zero_message _ ∙ ap (λ (l : List Message). l ++ x ∷ []) (sym (queue-view t s r)))

stored-as : (t u : Tables) (p : ℕ) (m : Model) → Stored t p → u ≡ pack m → u.count ≡ t.count → Stored u p
stored-as t u p m s e c = record { packed = ap (λ (w : Tables). pack (view w)) e ∙ ap pack (view-pack m) ∙ sym e; count = rw c s.count; inside = rw c s.inside }

-- partition p becomes y; the booleans say whether a message from q is taken, and whether x is sent there
module _ (t : Tables) (p q : ℕ) (hp : Stored t p) (hq : Stored t q) (b : Bool) (s : Option Message) (y : Partition) (z : Part) (hz : pack_partition z ≡ y) where
  abbrev u : Tables
  u = record { count = t.count; partitions = t.partitions; queues = set t.queues (q * max_partitions + p) (taken_if b (get_or t.queues (q * max_partitions + p) no_queue)) }

  abbrev m : Model
  m = taken_model b (view t) q p

  after-taking : u ≡ pack m
  after-taking =
      by_test b (λ k. rw k (taken-stored t q p hq hp))
      (λ k. rw k ((λ i. record { count = t.count; partitions = t.partitions; queues = set_back t.queues (q * max_partitions + p) no_queue i }) ∙ sym hp.packed))

  abbrev v : Tables
  v = record { count = t.count; partitions = set t.partitions p y; queues = u.queues }

  abbrev n : Model
  n = set_partition m p z

  after-change : v ≡ pack n
  after-change = set-stored u p (stored-as t u p m hp after-taking refl) y z hz ∙ ap (λ (w : Model). pack (set_partition w p z)) (ap view after-taking ∙ view-pack m)

  abbrev w : Tables
  w = record { count = t.count; partitions = v.partitions; queues = set v.queues (p * max_partitions + q) (sent_if s (get_or v.queues (p * max_partitions + q) no_queue)) }

  after-all : w ≡ pack (sent_model s n p q)
  after-all = go s refl
    where
      go : (j : Option Message) → s ≡ j → w ≡ pack (sent_model s n p q)
      go None k = rw k ((λ i. record { count = t.count; partitions = v.partitions; queues = set_back v.queues (p * max_partitions + q) no_queue i }) ∙ after-change)
      go (Some x) k = rw k (sent-stored v p q (stored-as t v p n hp after-change refl) (stored-as t v q n hq after-change refl) x ∙ ap (λ (j : Model). pack (send j p q x)) (ap view after-change ∙ view-pack n))

  pub exchanged : (number : ℕ) (c : Change) → c ≡ exchanges_with p q y number b s → applied t c ≡ stored t (accept number NoReply (sent_model s n p q))
  unfolding applied changed stored
  exchanged number c e = rw e (ap (accepted_tables number) after-all)
    where
      accepted_tables : ℕ → Tables → Answered
      accepted_tables k j = record { answer = record { refusal = Accepted; number = k; reply = NoReply }; tables = j }

-- with no message
module _ (t : Tables) (p : ℕ) (h : Stored t p) (y : Partition) where
  pub changed-to : (z : Part) → pack_partition z ≡ y → (number : ℕ) (reply : Reply) (c : Change) → c ≡ changes_with p y number reply
      → applied t c ≡ stored t (accept number reply (set_partition (view t) p z))
  unfolding applied changed stored
  changed-to z hz number reply c e =
      rw e (ap (λ (j : Tables). record { answer = record { refusal = Accepted; number = number; reply = reply }; tables = j }) (after-all t p p h h false None y z hz))

  pub kept-as-is : y ≡ partition_at t p → (why : Refusal) (c : Change) → c ≡ keeps_with p y why → applied t c ≡ refused_with t why
  unfolding applied changed
  kept-as-is f why c e =
      rw (e, f) (λ i. record { answer = record { refusal = why; number = 0; reply = NoReply }; tables = record { count = t.count; partitions = set_back t.partitions p no_partition i; queues = set_back (set_back t.queues (p * max_partitions + p) no_queue i) (p * max_partitions + p) no_queue i } })

taken-partition : (b : Bool) (m : Model) (s r p : ℕ) → partition (taken_model b m s r) p ≡ partition m p
unfolding partition set_queue
taken-partition b m s r p = by_test b (λ k. rw k refl) (λ k. rw k refl)

partition-back : (m : Model) (p : ℕ) → set_partition m p (partition m p) ≡ m
unfolding partition set_partition
partition-back m p = λ i. record { partitions = set_back m.partitions p no_part i; queues = m.queues }

-- ---- one list of partition p, which was read as x, is changed; l is its stored form

module _ (t : Tables) (p : ℕ) (h : Stored t p) (x : Partition) (e : x ≡ partition_at t p) where
  abbrev held : Part
  held = partition (view t) p

  read : x ≡ pack_partition held
  read = e ∙ partition-stored t p h

  abbrev with_own_entries : Entries → Partition
  with_own_entries l = record { up = x.up; last = x.last; entries = l; backpointers = x.backpointers; records = x.records }

  abbrev with_own_backpointers : Backpointers → Partition
  with_own_backpointers l = record { up = x.up; last = x.last; entries = x.entries; backpointers = l; records = x.records }

  abbrev with_own_records : Records → Partition
  with_own_records l = record { up = x.up; last = x.last; entries = x.entries; backpointers = x.backpointers; records = l }

  pub entries-change : (f : List Entry → List Entry) (l : Entries) → l ≡ pack_entries (f held.entries) → (number : ℕ) (reply : Reply) (c : Change)
      → c ≡ changes_with p (with_own_entries l) number reply → applied t c ≡ stored t (accept number reply (change_entries (view t) p f))
  unfolding change_entries
  entries-change f l g number reply c k = changed-to t p h _ (with_entries held (f held.entries)) (rw (read, g) refl) number reply c k

  pub records-change : (f : List Record → List Record) (l : Records) → l ≡ pack_records (f held.records) → (number : ℕ) (reply : Reply) (c : Change)
      → c ≡ changes_with p (with_own_records l) number reply → applied t c ≡ stored t (accept number reply (change_records (view t) p f))
  unfolding change_records
  records-change f l g number reply c k = changed-to t p h _ (with_records held (f held.records)) (rw (read, g) refl) number reply c k

  -- and messages go between it and partition q
  module _ (q : ℕ) (hq : Stored t q) (b : Bool) (s : Option Message) (number : ℕ) (c : Change) where
    abbrev Goal : Model → Type 0
    Goal n = applied t c ≡ stored t (accept number NoReply (sent_model s n p q))

    pub records-exchange : (f : List Record → List Record) (l : Records) → l ≡ pack_records (f held.records) → c ≡ exchanges_with p q (with_own_records l) number b s
        → Goal (change_records (taken_model b (view t) q p) p f)
    unfolding change_records
    records-exchange f l g k =
        exchanged t p q h hq b s _ (with_records held (f held.records)) (rw (read, g) refl) number c k
        ∙ ap (λ (y : Part). stored t (accept number NoReply (sent_model s (set_partition (taken_model b (view t) q p) p (with_records y (f y.records))) p q))) (sym (taken-partition b (view t) q p p))

    pub backpointers-exchange : (f : List Backpointer → List Backpointer) (l : Backpointers) → l ≡ pack_backpointers (f held.backpointers) → c ≡ exchanges_with p q (with_own_backpointers l) number b s
        → Goal (change_backpointers (taken_model b (view t) q p) p f)
    unfolding change_backpointers
    backpointers-exchange f l g k =
        exchanged t p q h hq b s _ (with_backpointers held (f held.backpointers)) (rw (read, g) refl) number c k
        ∙ ap (λ (y : Part). stored t (accept number NoReply (sent_model s (set_partition (taken_model b (view t) q p) p (with_backpointers y (f y.backpointers))) p q))) (sym (taken-partition b (view t) q p p))

    -- x is as it was
    pub messages-exchange : c ≡ exchanges_with p q x number b s → Goal (taken_model b (view t) q p)
    messages-exchange k =
        exchanged t p q h hq b s x held (sym read) number c k
        ∙ ap (λ (n : Model). stored t (accept number NoReply (sent_model s n p q))) (ap (set_partition (taken_model b (view t) q p) p) (sym (taken-partition b (view t) q p p)) ∙ partition-back (taken_model b (view t) q p) p)

-- ---- which changes can be stored

-- no message is sent
pub unsent : {A : Type 0} (x : Message) → None ≡ Some x → A
unsent x k = cc

module _ (t : Tables) (r : Ready t) (p : ℕ) (h : p < t.count) (c : Change) where
  pub kept-applies : (x : Partition) (why : Refusal) → c ≡ keeps_with p x why → Applies t c
  kept-applies x why e = rw e (record { ready = r; at = h; other = h; takes = record { some = λ k. no_true k refl }; sends = record { room = λ x k. unsent x k } })

  pub changed-applies : (x : Partition) (number : ℕ) (reply : Reply) → c ≡ changes_with p x number reply → Applies t c
  changed-applies x number reply e = rw e (record { ready = r; at = h; other = h; takes = record { some = λ k. no_true k refl }; sends = record { room = λ x k. unsent x k } })

  pub exchanged-applies : (q : ℕ) → q < t.count → (x : Partition) (number : ℕ) (b : Bool) (s : Option Message) → Takes b (queue_at t (q * max_partitions + p))
      → Sends s (get_or (set t.queues (q * max_partitions + p) (taken_if b (queue_at t (q * max_partitions + p)))) (p * max_partitions + q) no_queue) → c ≡ exchanges_with p q x number b s → Applies t c
  exchanged-applies q g x number b s f k e = rw e (record { ready = r; at = h; other = g; takes = f; sends = k })

pub ruleset refused-applies = (kept-as-is, kept-applies)
