-- What a command answers on the stored tables, whatever they hold: `Rehearsal` says it of the model, and `Claims` that the two
-- agree on the sessions of a rehearsal.
use Rattle.std.specs.Prelude.{false, true, List, [], ◌∷◌, ◌≡◌, ℕ}
use Rattle.lists.specs.Lists.{pick}
use Rattle.protocol.specs.Elements.{is_accepted, refusal_number}
use Rattle.protocol.specs.Events.{advancing, crashing, creating, cutting, delivering, linking, opening, recovering, unlinking}
use Rattle.protocol.specs.Settle.{zero_tally}
use Rattle.protocol.specs.Tables.{fresh}
use Rattle.protocol.specs.declared.Refusal.TheVariants.{Accepted, NotUnderstood as LineNotUnderstood}
use Rattle.tables.specs.View.{pack, view}
use Rattle.tables.specs.declared.Tables.{Tables}
use Rattle.answers.specs.Called.{Ready, called}
use Rattle.answers.specs.declared.Answered.{Answered}
use Rattle.settle.specs.Settled.{settled}
use Rattle.settle.specs.declared.Settled.{Settled}
use Rattle.rehearsal.specs.Answers.{numbers_of, stored}
use Rattle.rehearsal.specs.declared.Command.{Command}
use Rattle.rehearsal.specs.declared.Verb.{Verb}
use Rattle.rehearsal.specs.declared.Verb.TheVariants.{Advance, Crash, Create, Cut, Deliver, Link, NotUnderstood, Open, Recover, Settle, Square, Totals, Unlink}
use Rattle.rehearsal.specs.Rehearsal.{Response as Modelled, State, answer_numbers, argument, closed, is_open, running, square, total_numbers}
pub use Rattle.sessions.specs.declared.Session.{Session}
pub use Rattle.sessions.specs.declared.Response.{Response}

-- before the first line
unfoldable pub closed_session : Session
closed_session = record { «open» = false; tables = pack (fresh 0) }

-- ---- numbers, and the session after them

abbrev pub answers : List ℕ → Session → Response
answers ns s = record { numbers = stored ns; session = s }

abbrev pub holding : Tables → Session
holding t = record { «open» = true; tables = t }

-- 23
abbrev pub not_read : Session → Response
not_read s = answers (refusal_number LineNotUnderstood ∷ 0 ∷ 0 ∷ []) s

abbrev pub after_event : Answered → Response
after_event a = answers (answer_numbers a.answer) (holding a.tables)

abbrev pub after_settle : Settled → Response
after_settle x = answers (refusal_number x.refusal ∷ x.tally.steps ∷ 0 ∷ []) (holding x.tables)

-- it is open from then on, if that was accepted
abbrev pub after_open : Answered → Response
after_open a = answers (answer_numbers a.answer) (record { «open» = is_accepted a.answer.refusal; tables = a.tables })

-- ---- a command

unfoldable pub responded_to : Verb → Command → Tables → Response
responded_to Open c t = not_read (holding t)
responded_to Link c t = after_event (called t (linking (argument c 0) (argument c 1) c.name (argument c 3) (argument c 4)))
responded_to Create c t = after_event (called t (creating (argument c 0) (argument c 1) c.name (argument c 3) (argument c 4)))
responded_to Unlink c t = after_event (called t (unlinking (argument c 0) (argument c 1) c.name))
responded_to Advance c t = after_event (called t (advancing (argument c 0) (argument c 1)))
responded_to Deliver c t = after_event (called t (delivering (argument c 0) (argument c 1)))
responded_to Cut c t = after_event (called t (cutting (argument c 0) (argument c 1)))
responded_to Crash c t = after_event (called t (crashing (argument c 0)))
responded_to Recover c t = after_event (called t (recovering (argument c 0)))
responded_to Settle c t = after_settle (settled t (argument c 0) zero_tally)
responded_to Totals c t = answers (total_numbers (view t)) (holding t)
responded_to Square c t = answers (refusal_number Accepted ∷ square (view t)) (holding t)
responded_to NotUnderstood c t = not_read (holding t)

-- "First accepted line: `P count`; a second one, or any other before it, is 23."
unfoldable pub opened_by : Session → Command → Response
opened_by s c = pick (is_open c.verb) (after_open (called s.tables (opening (argument c 0)))) (not_read s)

unfoldable pub responded : Session → Command → Response
responded s c = pick s.«open» (responded_to c.verb c s.tables) (opened_by s c)

-- ---- what a session means

abbrev pub state_of : Session → State
state_of s = pick s.«open» (running (view s.tables)) closed

-- the tables, once there are any, are in order
pub record Orderly (s : Session) : Type 0 where
  pub ready : s.«open» ≡ true → Ready s.tables

-- the same numbers, and the same state, again in order
pub record Agrees (r : Response) (x : Modelled) : Type 0 where
  pub numbers : numbers_of r.numbers ≡ x.numbers
  pub state : state_of r.session ≡ x.state
  pub next : Orderly r.session
