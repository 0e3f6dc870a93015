-- A change of one partition is what its command does.
use mathlib.Core.Bool.{Bool, ◌&&◌, false, true}
use mathlib.Core.List.{[], ◌∷◌}
use mathlib.Core.Path.{◌∙◌, ◌≡◌, ap, refl, subst, sym}
use lib.Dec.{ltb}
use Prim.Native.Nat.{ℕ}
use Rattle.protocol.specs.Advance.{advance}
use Rattle.protocol.specs.Answers.{Outcome}
use Rattle.protocol.specs.Ask.{ask, unlink}
use Rattle.protocol.specs.Deliver.{deliver}
use Rattle.protocol.specs.Events.{advancing, crashing, creating, cutting, delivering, Event, linking, recovering, unlinking, bare, tests}
use Rattle.protocol.specs.Faults.{crash, cut, recover}
use Rattle.protocol.specs.declared.Kind.{Kind}
use Rattle.protocol.specs.declared.Kind.TheVariants.{Create as CreateKind, Link as LinkKind}
use Rattle.protocol.specs.declared.Refusal.{Refusal}
use Rattle.protocol.specs.Elements.{refusal_number}
use Rattle.protocol.specs.declared.Refusal.TheVariants.{Accepted, NotUnderstood, OutOfRange}
use Rattle.protocol.specs.declared.Reply.TheVariants.{None}
use Rattle.tables.specs.View.{Sized, pack, partition_at, view}
use Rattle.tables.specs.declared.Partition.{Partition}
use Rattle.tables.specs.declared.Tables.{Tables}
use Rattle.answers.specs.Called.{Ready, accepted_with, called, refused_with, stored, tested}
use Rattle.answers.specs.Change.{Applies, applied, keeps_with}
use Rattle.answers.specs.declared.Answered.{Answered}
use Rattle.answers.specs.declared.changes.Change.{Change}
use Rattle.answers.proofs.Applied.{apply_at, apply-other, from-most, from-packed, from_some, kept-applies, kept-as-is, to-packed, to_room}
use Rattle.answers.proofs.Calls.{tested-called}
use Rattle.answers.proofs.Ways.{ready-some, ready-stored}
use Rattle.asks.proofs.Asks.{ask-not-there}
use Rattle.asks.proofs.Unlinks.{unlink-not-there}
use Rattle.advances.proofs.Advances.{advance-outside}
use Rattle.deliveries.proofs.Delivers.{deliver-outside}
use Rattle.faults.proofs.Faulty.{recover-outside}
use Rattle.rehearsal.specs.declared.Command.{Command}
use Rattle.rehearsal.specs.declared.Verb.{Verb}
use Rattle.rehearsal.specs.declared.Verb.TheVariants.{Advance, Crash, Create, Cut, Deliver, Link, NotUnderstood as Unread, Open, Recover, Square, Totals, Unlink}
use Rattle.rehearsal.specs.Rehearsal.{argument, square, total_numbers}
use Rattle.deeds.specs.Deeds.{Changes, Deed, Does, Loses, Queued, Says}
use Rattle.faults.specs.Suffered.{suffered}
use Rattle.std.specs.Prelude.{Err, IfSome, None as NoDeed, Ok, Option, Result, Some}
use Rattle.losses.specs.Lost.{lost}
use Rattle.losses.specs.declared.Loss.{Loss}
use Rattle.rehearsal.specs.Answers.{Numbers, stored as said_as}
use Rattle.sessions.specs.Session.{after_event, holding, responded, responded_to}
use Rattle.sessions.specs.declared.Response.{Response}

-- ---- what is done

queues-there : (t : Tables) → Sized t → (x : Change) → Applies t x → Queued t x
queues-there t z x h =
    record {
      packed = from-packed t z x h _ refl;
      most = from-most t z x h _ refl;
      takes = from_some t z x h _ refl;
      after = to-packed t z x h _ refl _ refl _ refl;
      sends = to_room t z x h _ refl _ refl _ refl;
    }

no_second : (a b : Bool) → b ≡ false → (a && b) ≡ false
no_second true b f = f
no_second false b f = refl

module _ (t : Tables) where
  -- something is lost
  loss-done : (z : Sized t) (r : Ready t) (loss : Loss) → Does (Loses loss) t (after_event (accepted_with (pack (lost loss (view t))) 0 None))
  loss-done z r loss = record { fits = (r, z); gives = refl }

  -- the change y of an event
  module _ (z : Sized t) (r : Ready t) (y : Change) (h : Applies t y) where
    answer-done : (a : Answered) → applied t y ≡ a → Does (Changes y) t (after_event a)
    unfolding applied
    answer-done a g = record { fits = (apply_at t z y h, apply-other t z y h, queues-there t z y h); gives = ap after_event g }

    outcome-done : (o : Outcome) → applied t y ≡ stored t o → Does (Changes y) t (after_event (tested t o))
    unfolding tested
    outcome-done o g = answer-done (tested t o) (g ∙ rw (r.shaped, r.order) refl)

    event-done : (e : Event) → tests e ≡ true → applied t y ≡ stored t (bare e (view t)) → Does (Changes y) t (after_event (called t e))
    event-done e k g = subst (λ (a : Answered). Does (Changes y) t (after_event a)) (tested-called t e k) (outcome-done (bare e (view t)) g)

    unlink-done : (c : Command) → applied t y ≡ stored t (unlink (view t) (argument c 0) (argument c 1) c.name) → Does (Changes y) t (responded_to Unlink c t)
    unfolding responded_to bare
    unlink-done c g = event-done (unlinking (argument c 0) (argument c 1) c.name) refl g

    advance-done : (c : Command) → applied t y ≡ stored t (advance (view t) (argument c 0) (argument c 1)) → Does (Changes y) t (responded_to Advance c t)
    unfolding responded_to bare
    advance-done c g = event-done (advancing (argument c 0) (argument c 1)) refl g

    deliver-done : (c : Command) → applied t y ≡ stored t (deliver (view t) (argument c 0) (argument c 1)) → Does (Changes y) t (responded_to Deliver c t)
    unfolding responded_to bare
    deliver-done c g = event-done (delivering (argument c 0) (argument c 1)) refl g

    recover-done : (c : Command) → applied t y ≡ stored t (recover (view t) (argument c 0)) → Does (Changes y) t (responded_to Recover c t)
    unfolding responded_to bare
    recover-done c g = event-done (recovering (argument c 0)) refl g

  -- what a refusal or a fault does
  module _ (z : Sized t) (r : Ready t) where
    pub refusal-done : (x : Partition) (why : Refusal) (y : Change) → x ≡ partition_at t 0 → y ≡ keeps_with 0 x why → Does (Changes y) t (after_event (refused_with t why))
    refusal-done x why y e k = answer-done z r y (kept-applies t r 0 (ready-some t z r) y x why k) (refused_with t why) (kept-as-is t 0 (ready-stored t 0 z r (ready-some t z r)) x e why y k)

  module _ (z : Sized t) (r : Ready t) (d : Deed) where
    passed : (a : Answered) (o : Outcome) → a ≡ stored t o → Does d t (after_event a) → Does d t (after_event (tested t o))
    unfolding tested
    passed a o g h = let e : a ≡ tested t o = g ∙ rw (r.shaped, r.order) refl in subst (λ (b : Answered). Does d t (after_event b)) e h

    stored-done : (a : Answered) (e : Event) → tests e ≡ true → a ≡ stored t (bare e (view t)) → Does d t (after_event a) → Does d t (after_event (called t e))
    stored-done a e k g h = subst (λ (b : Answered). Does d t (after_event b)) (tested-called t e k) (passed a (bare e (view t)) g h)

    -- no partition has the number; b is the test
    module _ (c : Command) (h : Does d t (after_event (refused_with t OutOfRange))) where
      module _ (b : Bool) (f : b ≡ false) (e : b ≡ ltb (argument c 0) t.count) where
        pub ask-beyond : (k : Kind) → Does d t (after_event (tested t (ask k (view t) (argument c 0) (argument c 1) c.name (argument c 3) (argument c 4))))
        ask-beyond k = passed _ _ (ask-not-there t z r k (argument c 0) (argument c 1) c.name (argument c 3) (argument c 4) _ b e f refl) h

        pub unlink-beyond : Does d t (responded_to Unlink c t)
        unfolding responded_to bare
        unlink-beyond = stored-done _ (unlinking (argument c 0) (argument c 1) c.name) refl (unlink-not-there t z r (argument c 0) (argument c 1) c.name _ b e f refl) h

        pub advance-beyond : Does d t (responded_to Advance c t)
        unfolding responded_to bare
        advance-beyond = stored-done _ (advancing (argument c 0) (argument c 1)) refl (advance-outside t z r (argument c 0) b e (argument c 1) _ f refl) h

        pub recover-beyond : Does d t (responded_to Recover c t)
        unfolding responded_to bare
        recover-beyond = stored-done _ (recovering (argument c 0)) refl (recover-outside t z r _ (argument c 0) b e f refl) h

      deliver-beyond : (ltb (argument c 0) t.count && ltb (argument c 1) t.count) ≡ false → Does d t (responded_to Deliver c t)
      unfolding responded_to bare
      deliver-beyond f = stored-done _ (delivering (argument c 0) (argument c 1)) refl (deliver-outside t z r (argument c 0) (argument c 1) _ refl _ f refl) h

      pub sender-beyond : ltb (argument c 0) t.count ≡ false → Does d t (responded_to Deliver c t)
      sender-beyond f = deliver-beyond (ap (λ (b : Bool). b && ltb (argument c 1) t.count) f)

      pub receiver-beyond : ltb (argument c 1) t.count ≡ false → Does d t (responded_to Deliver c t)
      receiver-beyond f = deliver-beyond (no_second (ltb (argument c 0) t.count) _ f)

    module _ (x : Result Loss Refusal) where
      pub fault-refused : (why : Refusal) → x ≡ Err why → Does d t (after_event (refused_with t why)) → Does d t (after_event (suffered t x))
      fault-refused why e h = rw e h

      pub cut-done : (c : Command) → suffered t x ≡ stored t (cut (view t) (argument c 0) (argument c 1)) → Does d t (after_event (suffered t x)) → Does d t (responded_to Cut c t)
      unfolding responded_to bare
      cut-done c g h = stored-done (suffered t x) (cutting (argument c 0) (argument c 1)) refl g h

      pub crash-done : (c : Command) → suffered t x ≡ stored t (crash (view t) (argument c 0)) → Does d t (after_event (suffered t x)) → Does d t (responded_to Crash c t)
      unfolding responded_to bare
      crash-done c g h = stored-done (suffered t x) (crashing (argument c 0)) refl g h

  pub fault-lost : (z : Sized t) (r : Ready t) (x : Result Loss Refusal) (loss : Loss) → x ≡ Ok loss → Does (Loses loss) t (after_event (suffered t x))
  fault-lost z r x loss e = rw e (loss-done z r loss)

  -- by the verb
  module _ (d : Deed) (v : Verb) (c : Command) where
    pub verb-done : (w : Verb) → v ≡ w → Does d t (responded_to w c t) → Does d t (responded_to v c t)
    verb-done w e h = rw e h

    abbrev asked : Kind → Answered
    asked k = tested t (ask k (view t) (argument c 0) (argument c 1) c.name (argument c 3) (argument c 4))

    pub link-done : v ≡ Link → Does d t (after_event (asked LinkKind)) → Does d t (responded_to v c t)
    unfolding responded_to bare
    link-done e h = rw e (subst (λ (a : Answered). Does d t (after_event a)) (tested-called t (linking (argument c 0) (argument c 1) c.name (argument c 3) (argument c 4)) refl) h)

    pub create-done : v ≡ Create → Does d t (after_event (asked CreateKind)) → Does d t (responded_to v c t)
    unfolding responded_to bare
    create-done e h = rw e (subst (λ (a : Answered). Does d t (after_event a)) (tested-called t (creating (argument c 0) (argument c 1) c.name (argument c 3) (argument c 4)) refl) h)

-- the change y, in tables u that are t
module _ (t u : Tables) (e : u ≡ t) (z : Sized u) (r : Ready u) (y : Change) (h : Applies u y) (c : Command) where
  there : (v : Tables → Response) → Does (Changes y) u (v u) → Does (Changes y) t (v t)
  there v d = subst (λ (s : Tables). Does (Changes y) s (v s)) e d

  -- of partition p
  module _ (p : ℕ) (k : p ≡ argument c 0) where
    abbrev Gives : (Tables → ℕ → Outcome) → Type 0
    Gives o = applied u y ≡ stored u (o u p)

    at_number : (o : Tables → ℕ → Outcome) → Gives o → applied u y ≡ stored u (o u (argument c 0))
    at_number o g = g ∙ ap (λ (q : ℕ). stored u (o u q)) k

    pub ask-here : (b : Kind) → applied u y ≡ stored u (ask b (view u) p (argument c 1) c.name (argument c 3) (argument c 4))
        → Does (Changes y) t (after_event (tested t (ask b (view t) (argument c 0) (argument c 1) c.name (argument c 3) (argument c 4))))
    ask-here b g =
        let o : Tables → ℕ → Outcome = λ s q. ask b (view s) q (argument c 1) c.name (argument c 3) (argument c 4) in
        there (λ s. after_event (tested s (o s (argument c 0)))) (outcome-done u z r y h (o u (argument c 0)) (at_number o g))

    pub unlink-here : applied u y ≡ stored u (unlink (view u) p (argument c 1) c.name) → Does (Changes y) t (responded_to Unlink c t)
    unlink-here g = there (responded_to Unlink c) (unlink-done u z r y h c (at_number (λ s q. unlink (view s) q (argument c 1) c.name) g))

    pub advance-here : applied u y ≡ stored u (advance (view u) p (argument c 1)) → Does (Changes y) t (responded_to Advance c t)
    advance-here g = there (responded_to Advance c) (advance-done u z r y h c (at_number (λ s q. advance (view s) q (argument c 1)) g))

    pub recover-here : applied u y ≡ stored u (recover (view u) p) → Does (Changes y) t (responded_to Recover c t)
    recover-here g = there (responded_to Recover c) (recover-done u z r y h c (at_number (λ s q. recover (view s) q) g))

    -- and from it to partition q
    pub deliver-here : (q : ℕ) → q ≡ argument c 1 → applied u y ≡ stored u (deliver (view u) p q) → Does (Changes y) t (responded_to Deliver c t)
    deliver-here q m g = there (responded_to Deliver c) (deliver-done u z r y h c (at_number (λ s n. deliver (view s) n q) g ∙ ap (λ (n : ℕ). stored u (deliver (view u) (argument c 0) n)) m))

-- the tables are open, and these numbers are said
module _ (b : Bool) (t : Tables) (c : Command) (e : b ≡ true) (ns : Numbers) where
  abbrev says : Numbers → Response
  says n = record { numbers = n; session = holding t }

  said : (w : Verb) → c.verb ≡ w → says ns ≡ responded_to w c t → Does (Says ns) t (responded (record { «open» = b; tables = t }) c)
  unfolding responded
  said w v h = let g : says ns ≡ responded_to c.verb c t = h ∙ ap (λ (x : Verb). responded_to x c t) (sym v) in rw e (record { fits = tt; gives = g })

  pub open-said : c.verb ≡ Open → ns ≡ said_as (refusal_number NotUnderstood ∷ 0 ∷ 0 ∷ []) → Does (Says ns) t (responded (record { «open» = b; tables = t }) c)
  unfolding responded_to
  open-said v h = said Open v (ap says h)

  pub unread-said : c.verb ≡ Unread → ns ≡ said_as (refusal_number NotUnderstood ∷ 0 ∷ 0 ∷ []) → Does (Says ns) t (responded (record { «open» = b; tables = t }) c)
  unfolding responded_to
  unread-said v h = said Unread v (ap says h)

  pub totals-said : c.verb ≡ Totals → ns ≡ said_as (total_numbers (view t)) → Does (Says ns) t (responded (record { «open» = b; tables = t }) c)
  unfolding responded_to
  totals-said v h = said Totals v (ap says h)

  pub square-said : c.verb ≡ Square → ns ≡ said_as (refusal_number Accepted ∷ square (view t)) → Does (Says ns) t (responded (record { «open» = b; tables = t }) c)
  unfolding responded_to
  square-said v h = said Square v (ap says h)

-- the tables are open, and this is what is done
pub open-done : (b : Bool) (t : Tables) (c : Command) (o : Option Deed) → b ≡ true → IfSome o (λ d. Does d t (responded_to c.verb c t))
    → IfSome o (λ d. (b ≡ true) × Does d t (responded (record { «open» = b; tables = t }) c))
unfolding responded
open-done b t c NoDeed e h = h
open-done b t c (Some d) e h = (e, rw e h)

pub ruleset faults-done = (fault-refused, fault-lost)

pub ruleset verbs-done = (verb-done, link-done, create-done)

pub ruleset sayings = (open-said, unread-said, totals-said, square-said)
