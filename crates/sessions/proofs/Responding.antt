-- The ways through the code that answers a command.
use mathlib.Core.Bool.{Bool, false, true}
use mathlib.Core.List.{List, [], ◌∷◌}
use mathlib.Core.Path.{◌∙◌, ◌≡◌, ap, refl, sym}
use Prim.Native.Nat.{min, ℕ}
use lib.ListN.{get_or}
use Rattle.lists.specs.Lists.{pick}
use Rattle.protocol.specs.Bounds.{max_partitions}
use Rattle.protocol.specs.Events.{Event, opening}
use Rattle.protocol.specs.Settle.{zero_tally}
use Rattle.protocol.specs.declared.Tally.{Tally}
use Rattle.tables.specs.View.{Sized, view}
use Rattle.tables.specs.declared.Tables.{Tables}
use Rattle.answers.specs.Called.{called}
use Rattle.answers.specs.declared.Answered.{Answered}
use Rattle.settle.specs.Settled.{settled}
use Rattle.settle.specs.declared.Settled.{Settled}
use Rattle.rehearsal.specs.Answers.{square_of, stored}
use Rattle.rehearsal.specs.Answers.{Numbers}
use Rattle.counts.specs.Counts.{lengths}
use Rattle.rehearsal.specs.declared.Command.{Command}
use Rattle.rehearsal.specs.declared.Verb.{Verb}
use Rattle.rehearsal.specs.Rehearsal.{argument, is_open, square}
use Rattle.sessions.specs.Session.{Response, Session, after_event, after_open, after_settle, not_read, opened_by, responded, responded_to}
use Rattle.counts.proofs.Counting.{square-counted}

-- ---- a command, once the tables are open: x is what the definition then has

-- the verb v was told to be w, and b answers its event e
pub by-event : (v w : Verb) (c : Command) (t : Tables) (e : Event) (a b : Answered) (r : Response) → v ≡ w → a ≡ b → b ≡ called t e → r ≡ after_event a
    → after_event (called t e) ≡ responded_to w c t → r ≡ responded_to v c t
by-event v w c t e a b r ew ea eb er ex = er ∙ ap after_event (ea ∙ eb) ∙ ex ∙ ap (λ (k : Verb). responded_to k c t) (sym ew)

pub by-settle : (t : Tables) (n : ℕ) (y : Tally) (s : Settled) (r x : Response) → y ≡ zero_tally → s ≡ settled t n y → r ≡ after_settle s
    → after_settle (settled t n zero_tally) ≡ x → r ≡ x
by-settle t n y s r x ey es er ex = er ∙ rw (es, ey) ex

pub square-stored : (t : Tables) (ls : List (List ℕ)) (ns : Numbers) → Sized t → ls ≡ lengths (view t)
    → ns ≡ stored (0 ∷ square_of (min t.count max_partitions) (λ s k. get_or (get_or ls s []) k 0)) → ns ≡ stored (0 ∷ square (view t))
square-stored t ls ns z e en = en ∙ ap (λ (l : List ℕ). stored (0 ∷ l)) (square-counted t ls z e)

-- the verb v was told to be w
pub by-verb : (v w : Verb) (c : Command) (t : Tables) (r x : Response) → v ≡ w → r ≡ x → x ≡ responded_to w c t → r ≡ responded_to v c t
by-verb v w c t r x e h g = h ∙ g ∙ ap (λ (k : Verb). responded_to k c t) (sym e)

-- ---- any command

module _ (s : Session) (c : Command) (r : Response) where
  pub open-unread : (b : Bool) → b ≡ is_open c.verb → b ≡ false → r ≡ not_read s → r ≡ opened_by s c
  unfolding opened_by
  open-unread b e f h = h ∙ rw (← e, f) refl

  pub open-taken : (b : Bool) (a : Answered) → b ≡ is_open c.verb → b ≡ true → a ≡ called s.tables (opening (argument c 0)) → r ≡ after_open a
      → r ≡ opened_by s c
  unfolding opened_by
  open-taken b a e f g h = h ∙ rw (g, ← e, f) refl

  abbrev either : Bool → Response
  either b = pick b (responded_to c.verb c s.tables) (opened_by s c)

  pub respond-closed : s.«open» ≡ false → r ≡ opened_by s c → r ≡ responded s c
  unfolding responded
  respond-closed e h = h ∙ ap either (sym e)

  pub respond-open : s.«open» ≡ true → r ≡ responded_to c.verb c s.tables → r ≡ responded s c
  unfolding responded
  respond-open e h = h ∙ ap either (sym e)

pub ruleset openings = (open-unread, open-taken)

pub ruleset responses = (respond-closed, respond-open)
