-- A session over the stored tables answers as the rehearsal does over the model, and stays in order.
use mathlib.Core.Bool.{Bool, ◌&&◌, false, true}
use mathlib.Core.List.{[], ◌∷◌}
use mathlib.Core.Path.{◌∙◌, ◌≡◌, ap, refl, subst, sym}
use Prim.Native.Nat.{ℕ}
use lib.Dec.{leb}
use borrow.Author.Tests.{leb-true}
use Rattle.lists.specs.Lists.{pick}
use Rattle.lists.proofs.Tests.{and_left, and_right, by_test, every-at, no_true}
use Rattle.protocol.specs.Answers.{Outcome, accepted, check}
use Rattle.protocol.specs.Bounds.{max_partitions}
use Rattle.protocol.specs.Elements.{refusal_number}
use Rattle.protocol.specs.Events.{advancing, crashing, creating, cutting, delivering, Event, linking, opening, recovering, unlinking, apply, bare}
use Rattle.protocol.specs.Faults.{open_tables}
use Rattle.protocol.specs.Order.{in_order}
use Rattle.protocol.specs.Settle.{Settled as Run, settle, zero_tally}
use Rattle.protocol.specs.Tables.{Model, fresh}
use Rattle.protocol.proofs.Applied.{apply-order, refused-keeps}
use Rattle.protocol.proofs.Kept.{fresh-whole}
use Rattle.protocol.proofs.Settling.{settle-order, settle-takes}
use Rattle.protocol.proofs.Shows.{whole-order}
use Rattle.tables.specs.View.{pack, shaped, view}
use Rattle.tables.specs.declared.Tables.{Tables}
use Rattle.tables.proofs.Packs.{view-pack}
use Rattle.tables.proofs.Shapes.{pack-shaped}
use Rattle.answers.specs.Called.{Ready, called, stored}
use Rattle.answers.specs.declared.Answered.{Answered}
use Rattle.settle.specs.Settled.{settled, settled_on}
use Rattle.settle.specs.declared.Settled.{Settled}
use Rattle.rehearsal.specs.declared.Command.{Command}
use Rattle.rehearsal.specs.declared.Verb.{Verb}
use Rattle.rehearsal.specs.declared.Verb.TheVariants.{Advance, Crash, Create, Cut, Deliver, Link, NotUnderstood, Open, Recover, Settle, Square, Totals, Unlink}
use Rattle.rehearsal.specs.Rehearsal.{answer_numbers, argument, closed, happened, has_settled, is_open, opening_response, respond, respond_to, running, unread}
use Rattle.sessions.specs.Session.{Agrees, Orderly, Session, after_event, after_open, after_settle, closed_session, holding, not_read, opened_by, responded, responded_to, state_of}
use Rattle.texts.proofs.Squares.{stored-numbers}

-- ---- what is stored of a model in order

stored-ready : (m : Model) (u : Tables) → in_order m ≡ true → u ≡ pack m → Ready u
unfolding in_order
stored-ready m u o e = record { shaped = rw e (pack-shaped m (every-at _ o 0)); order = rw (e, view-pack m) o }

stored-view : (m : Model) (u : Tables) → u ≡ pack m → view u ≡ m
stored-view m u e = ap view e ∙ view-pack m

holds : (t : Tables) → Ready t → Orderly (holding t)
holds t r = record { ready = λ e. r }

-- ---- an event

module _ (t : Tables) (r : Ready t) (e : Event) where
  abbrev outcome : Outcome
  outcome = apply e (view t)

  event-is : called t e ≡ stored t outcome
  unfolding called
  event-is = rw r.shaped refl

  event-answer : (called t e).answer ≡ outcome.answer
  unfolding stored
  event-answer = ap (λ (a : Answered). a.answer) event-is

  event-tables : (called t e).tables ≡ pick (accepted outcome) (pack outcome.model) t
  unfolding stored
  event-tables = ap (λ (a : Answered). a.tables) event-is

  event-view : view (called t e).tables ≡ outcome.model
  event-view =
      ap view event-tables
      ∙ by_test (accepted outcome)
      (λ a. rw a (view-pack outcome.model))
      (λ a. rw a (sym (ap (λ (o : Outcome). o.model) (refused-keeps e (view t) a))))

  event-ready : Ready (called t e).tables
  event-ready =
      by_test (accepted outcome)
      (λ a. stored-ready outcome.model (called t e).tables (apply-order e (view t) r.order) (event-tables ∙ rw a refl))
      (λ a. subst Ready (sym (event-tables ∙ rw a refl)) r)

  event-agrees : Agrees (after_event (called t e)) (happened outcome)
  event-agrees =
      record {
        numbers = stored-numbers _ ∙ ap answer_numbers event-answer;
        state = ap running event-view;
        next = holds (called t e).tables event-ready;
      }

-- ---- settle

module _ (t : Tables) (r : Ready t) (n : ℕ) where
  abbrev ends : Run
  ends = settle n zero_tally (view t)

  settle_is : settled t n zero_tally ≡ record { refusal = ends.refusal; tally = ends.tally; tables = pack ends.model }
  unfolding settled settled_on
  settle_is = rw (r.shaped, (settle-takes n zero_tally (view t) r.order).accepts) refl

  settle-tables : (settled t n zero_tally).tables ≡ pack ends.model
  settle-tables = ap (λ (s : Settled). s.tables) settle_is

  settle-agrees : Agrees (after_settle (settled t n zero_tally)) (has_settled ends)
  settle-agrees =
      record {
        numbers = stored-numbers _ ∙ ap (λ (s : Settled). refusal_number s.refusal ∷ s.tally.steps ∷ 0 ∷ []) settle_is;
        state = ap running (stored-view ends.model _ settle-tables);
        next = holds _ (stored-ready ends.model _ (settle-order n zero_tally (view t) r.order) settle-tables);
      }

-- ---- once the tables are open

unread-agrees : (s : Session) → Orderly s → Agrees (not_read s) (unread (state_of s))
unread-agrees s o = record { numbers = stored-numbers _; state = refl; next = o }

verb-agrees : (v : Verb) (c : Command) (t : Tables) → Ready t → Agrees (responded_to v c t) (respond_to v c (view t))
unfolding responded_to respond_to
verb-agrees Open c t r = unread-agrees (holding t) (holds t r)
verb-agrees Link c t r = event-agrees t r (linking (argument c 0) (argument c 1) c.name (argument c 3) (argument c 4))
verb-agrees Create c t r = event-agrees t r (creating (argument c 0) (argument c 1) c.name (argument c 3) (argument c 4))
verb-agrees Unlink c t r = event-agrees t r (unlinking (argument c 0) (argument c 1) c.name)
verb-agrees Advance c t r = event-agrees t r (advancing (argument c 0) (argument c 1))
verb-agrees Deliver c t r = event-agrees t r (delivering (argument c 0) (argument c 1))
verb-agrees Cut c t r = event-agrees t r (cutting (argument c 0) (argument c 1))
verb-agrees Crash c t r = event-agrees t r (crashing (argument c 0))
verb-agrees Recover c t r = event-agrees t r (recovering (argument c 0))
verb-agrees Settle c t r = settle-agrees t r (argument c 0)
verb-agrees Totals c t r = record { numbers = stored-numbers _; state = refl; next = holds t r }
verb-agrees Square c t r = record { numbers = stored-numbers _; state = refl; next = holds t r }
verb-agrees NotUnderstood c t r = unread-agrees (holding t) (holds t r)

-- ---- before that: an open has no tables to test, so that it does not matter which there are

is_count : ℕ → Bool
is_count k = leb 1 k && leb k max_partitions

module _ (t : Tables) (k : ℕ) where
  open_is : called t (opening k) ≡ stored t (open_tables (view t) k)
  unfolding called apply check bare
  open_is = by_test (shaped t) (λ e. rw e refl) (λ e. rw e refl)

  open-agrees : Agrees (after_open (called t (opening k))) (opening_response (apply (opening k) (fresh 0)))
  unfolding stored apply check bare open_tables is_count
  open-agrees =
      by_test (is_count k)
      (λ e.
      let w = fresh-whole k (leb-true 1 k (and_left _ _ e)) (leb-true k max_partitions (and_right (leb 1 k) _ e)) in
      rw (open_is, e)
      (record {
        numbers = stored-numbers _;
        state = ap running (view-pack (fresh k));
        next = holds _ (stored-ready (fresh k) _ (whole-order _ w) refl);
      }))
      (λ e. rw (open_is, e) (record { numbers = stored-numbers _; state = refl; next = record { ready = λ x. no_true x refl } }))

-- ---- every command

module _ (s : Session) (c : Command) where
  closed-agrees : s.«open» ≡ false → Agrees (opened_by s c) (respond closed c)
  unfolding opened_by respond
  closed-agrees e =
      by_test (is_open c.verb)
      (λ v. rw v (open-agrees s.tables (argument c 0)))
      (λ v. rw v (subst (λ (b : Bool). Agrees (not_read s) (unread (pick b (running (view s.tables)) closed))) e
      (unread-agrees s (record { ready = λ x. no_true x e }))))

  -- of a session that is open so
  abbrev Agreeing : Bool → Type 0
  Agreeing b = Agrees (pick b (responded_to c.verb c s.tables) (opened_by s c)) (respond (pick b (running (view s.tables)) closed) c)

  open-session : Orderly s → s.«open» ≡ true → Agreeing true
  unfolding respond
  open-session o e = verb-agrees c.verb c s.tables (o.ready e)

  pub session-agrees : Orderly s → Agrees (responded s c) (respond (state_of s) c)
  unfolding responded
  session-agrees o =
      by_test s.«open» (λ e. subst Agreeing (sym e) (open-session o e)) (λ e. subst Agreeing (sym e) (closed-agrees e))

pub first-closed : state_of closed_session ≡ closed
unfolding closed_session
first-closed = refl

pub first-orderly : Orderly closed_session
unfolding closed_session
first-orderly = record { ready = λ x. no_true x refl }
