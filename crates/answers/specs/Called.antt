-- What a call on the stored tables gives: the answer of document 01's definition, and the tables after it, stored.
use Rattle.std.specs.Prelude.{true, ◌&&◌, ◌||◌, not, ◌≡◌, ℕ}
use Rattle.lists.specs.Lists.{pick}
use Rattle.protocol.specs.declared.Answer.{Answer}
use Rattle.protocol.specs.declared.Refusal.{Refusal}
use Rattle.protocol.specs.declared.Refusal.TheVariants.{Accepted, OutOfOrder}
use Rattle.protocol.specs.declared.Reply.{Reply}
use Rattle.protocol.specs.declared.Reply.TheVariants.{None}
use Rattle.protocol.specs.Order.{in_order}
use Rattle.protocol.specs.Answers.{Outcome, refuse, accepted}
use Rattle.protocol.specs.Events.{Event, tests, apply}
use Rattle.tables.specs.declared.Tables.{Tables}
use Rattle.tables.specs.View.{view, pack, shaped}
pub use Rattle.answers.specs.declared.Answered.{Answered}

-- a refusal gives back the tables that were lent
unfoldable pub stored : Tables → Outcome → Answered
stored t o = record { answer = o.answer; tables = pick (accepted o) (pack o.model) t }

-- the event on the tables t, whatever they hold; "Every call first tests this", and tables that are not shaped are out of order
unfoldable pub called : Tables → Event → Answered
called t e = stored t (pick (shaped t || not (tests e)) (apply e (view t)) (refuse OutOfOrder (view t)))

-- the same of an event that tests the order, by its outcome on tables in order
unfoldable pub tested : Tables → Outcome → Answered
tested t o = stored t (pick (shaped t && in_order (view t)) o (refuse OutOfOrder (view t)))

-- tables that have passed the test
pub record Ready (t : Tables) : Type 0 where
  pub shaped : shaped t ≡ true
  pub order : in_order (view t) ≡ true

abbrev pub refusal_with : Refusal → Answer
refusal_with why = record { refusal = why; number = 0; reply = None }

abbrev pub refused_with : Tables → Refusal → Answered
refused_with t why = record { answer = refusal_with why; tables = t }

abbrev pub acceptance : ℕ → Reply → Answer
acceptance n reply = record { refusal = Accepted; number = n; reply = reply }

abbrev pub accepted_with : Tables → ℕ → Reply → Answered
accepted_with t n reply = record { answer = acceptance n reply; tables = t }
