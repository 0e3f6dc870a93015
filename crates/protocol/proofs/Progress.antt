-- While a record is open and all partitions are up, some advance or delivery is accepted: from any tables in order.
use mathlib.Core.Bool.{Bool, false, not, true}
use mathlib.Core.List.{List, [], ◌∷◌, nil≢cons}
use mathlib.Core.Path.{◌∙◌, ◌≡◌, ap, refl, subst, sym}
use Prim.Native.Nat.{◌<◌, ℕ}
use lib.Dec.{ltb}
use lib.ListN.{length}
use borrow.Author.Tests.{lt-ltb, ltb-false, ltb-true}
use Rattle.lists.specs.Lists.{all, keep}
use Rattle.protocol.specs.Advance.{advance, next, next_of, next_to_add, next_to_remove, perform}
use Rattle.protocol.specs.Answers.{Outcome, accepted, check}
use Rattle.protocol.specs.Deliver.{deliver, deliver_oldest}
use Rattle.protocol.specs.Demands.{AllUp, is_step, open_records}
use Rattle.protocol.specs.Elements.{Backpointer, Cleared, Closes, Create, Enters, Entry, Held, Kind, Link, Message, Next, Ready, Record, Refused, Request, Sends, Sent, Stage, Stays, TakesOut, Turns, Unlink, adds, is_sent, stage_fits}
use Rattle.protocol.specs.Events.{advancing, delivering, Event, apply, bare, run}
use Rattle.protocol.specs.Order.{in_order}
use Rattle.protocol.specs.Tables.{Model, Partition, no_partition, partition, queue, record_bears}
use Rattle.lists.proofs.Keep.{keep-cons-same}
use Rattle.lists.proofs.Sums.{total-some}
use Rattle.lists.proofs.Tests.{and_left, and_right, by_test, eqb_same, no_true}
use Rattle.protocol.proofs.Applied.{apply-is, apply-order, refused-keeps}
use Rattle.protocol.proofs.Bound.{no-records}
use Rattle.protocol.proofs.Changes.{no_step}
use Rattle.protocol.proofs.Content.{Content, Fine, letters, message_at, record_at}
use Rattle.protocol.proofs.Kept.{step-moves}
use Rattle.protocol.proofs.Look.{four}
use Rattle.protocol.proofs.Numbers.{View, about}
use Rattle.protocol.proofs.Tells.{order-whole}
use Rattle.protocol.proofs.Whole.{Fit, Sound, Way, Whole, asking, idle, mail_of, recs_of, rests, told}

-- a step is not a stay
abbrev goes : Next → Bool
goes (Closes reply) = true
goes Sends = true
goes Enters = true
goes Turns = true
goes TakesOut = true
goes (Stays why) = false

module _ (m : Model) (g : Whole m) (up : AllUp m) (p n : ℕ) (h : p < length m.partitions) where
  abbrev Goes : Type 0
  Goes = (e : Event) × (is_step e ≡ true) × (accepted (bare e m) ≡ true)

  up-perform : (c : Content) (k : Kind) (x : Next) (g : Stage) → Fine m c → goes x ≡ true → accepted (perform m p (record_at c n k g) x) ≡ true
  unfolding perform check
  up-perform c k (Closes reply) g f o = refl
  up-perform c k Sends g f o = rw (up c.partition f.partition, perform, check) refl
  up-perform c k Enters g f o = refl
  up-perform c k Turns g f o = refl
  up-perform c k TakesOut g f o = refl
  up-perform c k (Stays why) g f o = no_step o

  -- a resting record has a step to take
  add_goes : (k : Kind) → adds k ≡ true → (g : Stage) → stage_fits k g ≡ true → is_sent g ≡ false → (entered taken : Bool)
      → goes (next_to_add g entered taken) ≡ true
  add_goes k a Ready o t true taken = refl
  add_goes k a Ready o t false taken = refl
  add_goes k a Sent o t entered taken = no_true refl t
  add_goes k a Held o t true taken = refl
  add_goes k a Held o t false true = refl
  add_goes k a Held o t false false = refl
  add_goes k a (Refused x) o t true taken = refl
  add_goes k a (Refused x) o t false taken = refl
  add_goes k a Cleared o t entered taken = no_true o (ap not a)

  remove-goes : (g : Stage) → stage_fits Unlink g ≡ true → is_sent g ≡ false → (entered : Bool) → goes (next_to_remove g entered) ≡ true
  remove-goes Ready o t true = refl
  remove-goes Ready o t false = refl
  remove-goes Sent o t entered = no_true refl t
  remove-goes Held o t entered = no_true o refl
  remove-goes (Refused x) o t entered = no_true o refl
  remove-goes Cleared o t entered = refl

  rest_goes : (k : Kind) (g : Stage) → stage_fits k g ≡ true → is_sent g ≡ false → (entered taken : Bool) → goes (next_of k g entered taken) ≡ true
  rest_goes Link g o t entered taken = add_goes Link refl g o t entered taken
  rest_goes Create g o t entered taken = add_goes Create refl g o t entered taken
  rest_goes Unlink g o t entered taken = remove-goes g o t entered

  first_code : (a b : ℕ) (l : List Message) → (l ≡ [] → ⊥) → accepted (deliver_oldest m a b l) ≡ true
  first_code a b [] k = absurd (k refl)
  first_code a b (y ∷ l) k = refl

  up-deliver : (a b : ℕ) → a < length m.partitions → b < length m.partitions → (z : Message) → keep (about a b p n) (queue m a b) ≡ z ∷ []
      → Goes
  unfolding bare deliver check keep
  up-deliver a b ha hb z e = (
    delivering a b,
    refl,
    rw (lt-ltb a _ ha, lt-ltb b _ hb, up b hb, deliver, check, bare)
        (first_code a b (queue m a b) (λ q. nil≢cons (sym (ap (keep (about a b p n)) q) ∙ e))),
  )

  progress : (c : Content) (E : List Entry) {B : ℕ → List Backpointer} (w : Way) → Sound m c w
      → View m p n E (recs_of c n w) B (letters c n p (mail_of w)) → (recs_of c n w ≡ [] → ⊥) → Goes
  unfolding bare advance check next
  progress c E idle so v r = absurd (r refl)
  progress c E (rests k g) so v r = (
    advancing p n,
    refl,
    rw (lt-ltb p _ h, up p h, v.records, advance, check, bare)
        (up-perform c k _ g so.0 (rest_goes k g so.1 so.2 _ _)),
  )
  progress c E (asking k) so v r =
      up-deliver p c.partition h so.partition (message_at c n k Request)
      (v.messages p c.partition (four g.shape _ so.partition) ∙ rw (eqb_same p, eqb_same c.partition) refl)
  progress c E (told k t) so v r =
      up-deliver c.partition p so.0.partition h (message_at c n k t)
      (v.messages c.partition p (four g.shape _ h) ∙ rw (eqb_same p, eqb_same c.partition) refl)

move-on : (m : Model) (g : Whole m) → AllUp m → (p : ℕ) (r : Record) (l : List Record) → (partition m p).records ≡ r ∷ l
    → (e : Event) × (is_step e ≡ true) × (accepted (bare e m) ≡ true)
move-on m g u p r l e =
    let n : ℕ = r.number in
    let y : Fit m p n = g.local p n in
    let f : recs_of y.what n y.way ≡ r ∷ keep (record_bears n) l = sym y.has.records ∙ ap (keep (record_bears n)) e ∙ keep-cons-same
    (record_bears n) l r (eqb_same n) in
    let h : p < length m.partitions = by_test (ltb p (length m.partitions)) (λ t. ltb-true _ _ t)
    (λ t. absurd (nil≢cons (sym (no-records m p (ltb-false _ _ t)) ∙ e))) in
    progress m g u p n h y.what y.entries y.way y.sound y.has (λ q. nil≢cons (sym q ∙ f))

some-record : {A : Type 0} (l : List A) → (length l ≡ 0 → ⊥) → (x : A) × (k : List A) × (l ≡ x ∷ k)
some-record [] h = absurd (h refl)
some-record (x ∷ l) h = (x, l, refl)

pub go_on : (m : Model) → in_order m ≡ true → AllUp m → (open_records m ≡ 0 → ⊥) → (e : Event) × (is_step e ≡ true) × (accepted (apply e m) ≡ true)
unfolding open_records partition no_partition
go_on m o u h =
    let a = total-some (λ (x : Partition). length x.records) no_partition refl m.partitions h in
    let b = some-record (partition m a.0).records a.2 in
    let c = move-on m (order-whole m o) u a.0 b.0 b.1 b.2 in
    (c.0, c.1, ap accepted (apply-is c.0 m o) ∙ c.2)

-- advances and deliveries leave all up
step-up : (e : Event) (m : Model) → in_order m ≡ true → is_step e ≡ true → AllUp m → AllUp (apply e m).model
step-up e m o t u =
    by_test (accepted (apply e m))
    (λ a.
    let q : apply e m ≡ bare e m = apply-is e m o in
    let x = step-moves e m (order-whole m o) t (ap accepted (sym q) ∙ a) in
    subst (λ (y : Outcome). AllUp y.model) (sym q) (λ p h. x.moved.others.ups p ∙ u p (rw x.moved.others.count at h)))
    (λ a. subst AllUp (sym (ap (λ (y : Outcome). y.model) (refused-keeps e m a))) u)

pub steps_up : (es : List Event) (m : Model) → in_order m ≡ true → all is_step es ≡ true → AllUp m → AllUp (run es m)
unfolding run all
steps_up [] m o st u = u
steps_up (e ∷ es) m o st u = steps_up es (apply e m).model (apply-order e m o) (and_right (is_step e) _ st) (step-up e m o (and_left _ _ st) u)
