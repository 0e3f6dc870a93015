-- The ways through the search for the first accepted step, in plain variables.
use mathlib.Core.Bool.{Bool, false, not, true}
use mathlib.Core.List.{List, [], ◌∷◌, map}
use mathlib.Core.Path.{◌∙◌, ◌≡◌, ap, refl, sym}
use Prim.Native.Nat.{◌*◌, ◌+◌, ◌<◌, ◌≤◌, suc, zero, ℕ}
use native.Mathlib.Omega.{arith}
use lib.Dec.{eqb}
use lib.ListN.{get_or, length, take}
use borrow.Author.Tests.{ne_eqb}
use Rattle.lists.specs.Lists.{each, is_some, pick}
use Rattle.lists.proofs.Tests.{by_test, no_true}
use Rattle.protocol.specs.Advance.{advance}
use Rattle.protocol.specs.Answers.{accepted, check}
use Rattle.protocol.specs.Bounds.{max_messages, max_partitions, queue_count}
use Rattle.protocol.specs.Deliver.{deliver, deliver_oldest}
use Rattle.protocol.specs.Elements.{is_accepted}
use Rattle.protocol.specs.Events.{advancing, delivering, Event, bare}
use Rattle.protocol.specs.Settle.{Found, advances, candidates, deliveries, first_accepted, found, nothing}
use Rattle.protocol.specs.Tables.{Model, partition, partition_count, queue, Partition as Part}
use Rattle.protocol.specs.declared.Message.{Message}
use Rattle.protocol.specs.declared.Record.{Record}
use Rattle.tables.specs.Slots.{free_message, no_record}
use Rattle.tables.specs.View.{Sized, partition_at, queue_at, records_of, view, Queue}
use Rattle.tables.specs.declared.Partition.{Partition}
use Rattle.tables.specs.declared.Tables.{Tables}
use Rattle.answers.specs.declared.Answered.{Answered}
use Rattle.answers.specs.Called.{Ready, stored}
use Rattle.answers.proofs.Ways.{read-four, read_up, read_view, ready-there, ready-view}
use Rattle.lists.proofs.Tidies.{tidy-fits}
use Rattle.tables.proofs.Packs.{shaped-all}
use Rattle.tables.proofs.Views.{queue-view}
use Rattle.std.specs.Prelude.{Option, Some, None}
use Rattle.std.specs.Option.{is_some as has_step}
use Rattle.steps.specs.Stepped.{Step, advances_of, deliveries_from, step_of, tried}
use Rattle.steps.proofs.First.{each-found, each-missed, each_none, first-kept, first_one, first_past, first-refused, map_each}

-- ---- one candidate

tried-step : (t : Tables) (e : Event) → tried (stored t (bare e (view t))) ≡ step_of t (first_accepted bare (view t) (e ∷ []))
unfolding stored step_of
tried-step t e =
    by_test (accepted (bare e (view t)))
    (λ a. rw (first_one bare (view t) e a, a) refl)
    (λ a. rw (first-refused bare (view t) e a, a) refl)

module _ (t : Tables) (s : Option Step) (a : Answered) (h : s ≡ tried a) where
  pub advance-tried : (p n : ℕ) → a ≡ stored t (advance (view t) p n) → s ≡ step_of t (first_accepted bare (view t) (advancing p n ∷ []))
  unfolding bare
  advance-tried p n k = h ∙ ap tried k ∙ tried-step t (advancing p n)

  pub delivery-tried : (p q : ℕ) → a ≡ stored t (deliver (view t) p q) → s ≡ step_of t (first_accepted bare (view t) (delivering p q ∷ []))
  unfolding bare
  delivery-tried p q k = h ∙ ap tried k ∙ tried-step t (delivering p q)

pub tried-accepted : (a : Answered) (b : Bool) → b ≡ is_accepted a.answer.refusal → b ≡ true → (s : Option Step) → s ≡ Some (record { reply = a.answer.reply; tables = a.tables }) → s ≡ tried a
tried-accepted a b e f s h = h ∙ rw (← e, f) refl

pub tried-refused : (a : Answered) (b : Bool) → b ≡ is_accepted a.answer.refusal → b ≡ false → (s : Option Step) → s ≡ None → s ≡ tried a
tried-refused a b e f s h = h ∙ rw (← e, f) refl

-- ---- candidates one after the other: of the lists g 0 to g (i - 1) none is accepted

pub record Trying (t : Tables) (g : ℕ → List Event) (i : ℕ) : Type 0 where
  pub none : first_accepted bare (view t) (each i g) ≡ nothing

step-none : (t : Tables) (x : Found) (s : Option Step) → s ≡ step_of t x → has_step s ≡ false → x ≡ nothing
unfolding step_of
step-none t nothing s h f = refl
step-none t (found e) s h f = no_true (ap has_step h) f

step-found : (t : Tables) (x y : Found) (s : Option Step) → s ≡ step_of t x → has_step s ≡ true → ((e : Event) → x ≡ found e → y ≡ found e) → s ≡ step_of t y
unfolding step_of
step-found t nothing y s h f k = no_true f (ap has_step h)
step-found t (found e) y s h f k = h ∙ ap (step_of t) (sym (k e refl))

module _ (t : Tables) (g : ℕ → List Event) where
  pub trying_start : Trying t g 0
  trying_start = record { none = each_none bare (view t) g }

  module _ (i : ℕ) (w : Trying t g i) where
    pub trying-next : (s : Option Step) → s ≡ step_of t (first_accepted bare (view t) (g i)) → (b : Bool) → b ≡ has_step s → b ≡ false → Trying t g (i + 1)
    trying-next s h b e f = record { none = each-missed bare (view t) g i w.none (step-none t _ s h (sym e ∙ f)) }

    trying-here : (n : ℕ) (s : Option Step) → i < n → s ≡ step_of t (first_accepted bare (view t) (g i)) → has_step s ≡ true
        → s ≡ step_of t (first_accepted bare (view t) (each n g))
    trying-here n s l h f = step-found t _ _ s h f (λ e k. each-found bare (view t) g n i e l w.none k)

    trying-done : (n : ℕ) (s : Option Step) → i ≤ n → n ≤ i → s ≡ None → s ≡ step_of t (first_accepted bare (view t) (each n g))
    unfolding step_of
    trying-done n s a b h = let q : i ≡ n = omega arith in h ∙ rw (← q, w.none) refl

-- ---- the records l of partition p's log

abbrev pub logged : ℕ → List Record → ℕ → List Event
logged p l i = advancing p (get_or l i no_record).number ∷ []

-- the log of partition p, read
pub record LogOf (t : Tables) (p : ℕ) (l : List Record) : Type 0 where
  pub read : (partition (view t) p).records ≡ l

pub log-read : (t : Tables) (p : ℕ) (z : Sized t) (r : Ready t) (h : p < t.count) (x : Partition) (e : x ≡ partition_at t p) (l : List Record) → l ≡ records_of x.records → LogOf t p l
log-read t p z r h x e l g = record { read = ap (λ (y : Part). y.records) (read_view t p z r h x e) ∙ sym g }

module _ (t : Tables) (p : ℕ) (l : List Record) (o : LogOf t p l) (i : ℕ) (w : Trying t (logged p l) i) where
  log-each : each (length l) (logged p l) ≡ advances_of (view t) p
  unfolding advances_of
  log-each = sym (map_each (λ (c : Record). advancing p c.number) no_record l) ∙ ap (map (λ (c : Record). advancing p c.number)) (sym o.read)

  all_logged : (s : Option Step) → s ≡ step_of t (first_accepted bare (view t) (each (length l) (logged p l))) → s ≡ step_of t (first_accepted bare (view t) (advances_of (view t) p))
  all_logged s h = h ∙ ap (λ (y : List Event). step_of t (first_accepted bare (view t) y)) log-each

  -- the record c is tried
  module _ (c : Record) (v : c ≡ get_or l i no_record) (s : Option Step) (h : s ≡ step_of t (first_accepted bare (view t) (advancing p c.number ∷ []))) (b : Bool) (e : b ≡ has_step s) where
    here : s ≡ step_of t (first_accepted bare (view t) (logged p l i))
    here = h ∙ ap (λ (y : Record). step_of t (first_accepted bare (view t) (advancing p y.number ∷ []))) v

    pub log-next : b ≡ false → Trying t (logged p l) (i + 1)
    log-next f = trying-next t (logged p l) i w s here b e f

    pub log-here : i < length l → b ≡ true → s ≡ step_of t (first_accepted bare (view t) (advances_of (view t) p))
    log-here k f = all_logged s (trying-here t (logged p l) i w (length l) s k here (sym e ∙ f))

  pub log-done : (s : Option Step) → i ≤ length l → length l ≤ i → s ≡ None → s ≡ step_of t (first_accepted bare (view t) (advances_of (view t) p))
  log-done s a b h = all_logged s (trying-done t (logged p l) i w (length l) s a b h)

-- ---- partition after partition

abbrev pub receivers : ℕ → ℕ → List Event
receivers s = λ r. delivering s r ∷ []

module _ (t : Tables) (z : Sized t) (r : Ready t) where
  all_here : (g : ℕ → List Event) (i : ℕ) → Trying t g i → (s : Option Step) → i < t.count → s ≡ step_of t (first_accepted bare (view t) (g i)) → has_step s ≡ true
      → s ≡ step_of t (first_accepted bare (view t) (each (partition_count (view t)) g))
  all_here g i w s k h f = trying-here t g i w (partition_count (view t)) s (rw (ready-view t z r) k) h f

  all_done : (g : ℕ → List Event) (i : ℕ) → Trying t g i → (s : Option Step) → i ≤ t.count → t.count ≤ i → s ≡ None
      → s ≡ step_of t (first_accepted bare (view t) (each (partition_count (view t)) g))
  all_done g i w s a b h = trying-done t g i w (partition_count (view t)) s (rw (ready-view t z r) a) (rw (ready-view t z r) b) h

  pub turn-four : (i : ℕ) → i < t.count → i < max_partitions
  turn-four i k = read-four t i z r k

  pub logs-here : (i : ℕ) → Trying t (advances_of (view t)) i → (s : Option Step) → i < t.count → s ≡ step_of t (first_accepted bare (view t) (advances_of (view t) i)) → (b : Bool) → b ≡ has_step s → b ≡ true
      → s ≡ step_of t (first_accepted bare (view t) (advances (view t)))
  unfolding advances advances_of
  logs-here i w s k h b e f = all_here (advances_of (view t)) i w s k h (sym e ∙ f)

  pub logs-done : (i : ℕ) → Trying t (advances_of (view t)) i → (s : Option Step) → i ≤ t.count → t.count ≤ i → s ≡ None → s ≡ step_of t (first_accepted bare (view t) (advances (view t)))
  unfolding advances advances_of
  logs-done i w s a b h = all_done (advances_of (view t)) i w s a b h

  module _ (p i : ℕ) (w : Trying t (receivers p) i) (b : Bool) (e : b ≡ accepted (deliver (view t) p i)) where
    pub receivers-next : b ≡ false → Trying t (receivers p) (i + 1)
    unfolding bare
    receivers-next f = record { none = each-missed bare (view t) (receivers p) i w.none (first-refused bare (view t) (delivering p i) (sym e ∙ f)) }

    pub receivers-here : b ≡ true → i < t.count → (s : Option Step) → s ≡ step_of t (first_accepted bare (view t) (delivering p i ∷ []))
        → s ≡ step_of t (first_accepted bare (view t) (deliveries_from (view t) p))
    unfolding bare deliveries_from
    receivers-here f k s h =
        let q : first_accepted bare (view t) (delivering p i ∷ []) ≡ found (delivering p i) = first_one bare (view t) (delivering p i) (sym e ∙ f) in
        h ∙ ap (step_of t) (q ∙ sym (each-found bare (view t) (receivers p) (partition_count (view t)) i _ (rw (ready-view t z r) k) w.none q))

  pub receivers-done : (p i : ℕ) → Trying t (receivers p) i → (s : Option Step) → i ≤ t.count → t.count ≤ i → s ≡ None → s ≡ step_of t (first_accepted bare (view t) (deliveries_from (view t) p))
  unfolding deliveries_from
  receivers-done p i w s a b h = all_done (receivers p) i w s a b h

  pub senders-here : (i : ℕ) → Trying t (deliveries_from (view t)) i → (s : Option Step) → i < t.count → s ≡ step_of t (first_accepted bare (view t) (deliveries_from (view t) i)) → (b : Bool) → b ≡ has_step s → b ≡ true
      → s ≡ step_of t (first_accepted bare (view t) (deliveries (view t)))
  unfolding deliveries deliveries_from
  senders-here i w s k h b e f = all_here (deliveries_from (view t)) i w s k h (sym e ∙ f)

  pub senders-done : (i : ℕ) → Trying t (deliveries_from (view t)) i → (s : Option Step) → i ≤ t.count → t.count ≤ i → s ≡ None → s ≡ step_of t (first_accepted bare (view t) (deliveries (view t)))
  unfolding deliveries deliveries_from
  senders-done i w s a b h = all_done (deliveries_from (view t)) i w s a b h

-- ---- whether a message from p waits for q, which was read as x

oldest-some : (m : Model) (p q : ℕ) (l : List Message) → accepted (deliver_oldest m p q l) ≡ is_some l
oldest-some m p q [] = refl
oldest-some m p q (x ∷ l) = refl

some-counted : (n : ℕ) (l : List Message) → n ≤ length l → is_some (take n l) ≡ not (eqb n 0)
some-counted zero l h = refl
some-counted (suc n) [] h = absurd (omega arith)
some-counted (suc n) (x ∷ l) h = rw (ne_eqb (suc n) 0 (λ e. let k : 0 ≡ suc n = sym e in omega arith)) refl

module _ (t : Tables) (z : Sized t) (r : Ready t) (p q : ℕ) (hp : p < t.count) (hq : q < t.count) (x : Partition) (e : x ≡ partition_at t q) where
  awaited : accepted (deliver (view t) p q) ≡ pick x.up (is_some (queue (view t) p q)) false
  unfolding deliver check
  awaited =
      by_test x.up
      (λ f. rw (ready-there t p z r hp, ready-there t q z r hq, read_up t q z r hq x e, f) (oldest-some (view t) p q (queue (view t) p q)))
      (λ f. rw (ready-there t p z r hp, ready-there t q z r hq, read_up t q z r hq x e, f) refl)

  pub awaits-down : x.up ≡ false → x.up ≡ accepted (deliver (view t) p q)
  awaits-down f = f ∙ sym (awaited ∙ rw f refl)

  pub awaits-up : x.up ≡ true → (y : Queue) → y ≡ queue_at t (p * max_partitions + q) → (b : Bool) → b ≡ not (eqb y.count 0) → b ≡ accepted (deliver (view t) p q)
  awaits-up f y v b h =
      let k : p * max_partitions + q < queue_count = let i = read-four t p z r hp in let j = read-four t q z r hq in omega arith in
      let c : (queue_at t (p * max_partitions + q)).count ≤ max_messages =
      tidy-fits max_messages free_message _ (queue_at t (p * max_partitions + q)).items true (sym ((shaped-all t z r.shaped).queue (p * max_partitions + q) k)) refl
      in
      let l : y.count ≤ length y.items = rw v (rw (z.queue (p * max_partitions + q) k) c) in
      let s : is_some (queue (view t) p q) ≡ not (eqb y.count 0) = rw (queue-view t p q, ← v) (some-counted y.count y.items l) in
      h ∙ sym s ∙ sym (awaited ∙ rw f refl)

-- ---- advances, then deliveries

module _ (t : Tables) (a : Option Step) (h : a ≡ step_of t (first_accepted bare (view t) (advances (view t)))) where
  pub step-advances : (b : Bool) → b ≡ has_step a → b ≡ true → a ≡ step_of t (first_accepted bare (view t) (candidates (view t)))
  step-advances b i f = step-found t _ _ a h (sym i ∙ f) (λ e k. first-kept bare (view t) (advances (view t)) (deliveries (view t)) e k)

  pub step-delivers : (s : Option Step) (b : Bool) → b ≡ has_step a → b ≡ false → s ≡ step_of t (first_accepted bare (view t) (deliveries (view t))) → s ≡ step_of t (first_accepted bare (view t) (candidates (view t)))
  step-delivers s b i f k =
      k ∙ ap (step_of t) (sym (first_past bare (view t) (advances (view t)) (deliveries (view t)) (step-none t _ a h (sym i ∙ f))))

pub ruleset tries = (advance-tried, delivery-tried, tried-accepted, tried-refused)

pub ruleset awaitings = (awaits-down, awaits-up)

pub ruleset log-tries = (trying_start, log-next, log-here, log-done)

pub ruleset all-tries = (turn-four, trying_start, trying-next, logs-here, logs-done, receivers-next, receivers-here, receivers-done, senders-here, senders-done)

pub ruleset step-tries = (step-advances, step-delivers)
