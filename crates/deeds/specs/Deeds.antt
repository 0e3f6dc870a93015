-- What a command does where it changes one partition only, or loses something: who holds the tables stores it in their place. Or what
-- it says, where it changes nothing.
use Rattle.std.specs.Prelude.{[], ◌∷◌, ◌≡◌, ◌<◌, ◌≤◌, get_or}
use Rattle.protocol.specs.Bounds.{max_messages, max_partitions}
use Rattle.tables.specs.View.{Sized, messages_of, no_queue, pack, pack_queue, view}
use Rattle.tables.specs.declared.Tables.{Tables}
use Rattle.answers.specs.Called.{Ready}
use Rattle.answers.specs.Change.{Sends, Takes, changed, from_other, taken_queues, to_other}
use Rattle.answers.specs.declared.changes.Change.{Change}
use Rattle.losses.specs.Lost.{lost}
use Rattle.rehearsal.specs.Answers.{stored}
use Rattle.rehearsal.specs.Rehearsal.{answer_numbers}
use Rattle.rehearsal.specs.Answers.{Numbers}
use Rattle.sessions.specs.Session.{holding}
use Rattle.sessions.specs.declared.Response.{Response}
pub use Rattle.deeds.specs.declared.Deed.{Deed}
pub use Rattle.deeds.specs.declared.Deed.TheVariants.{Changes, Loses, Says}

-- what is said of it
abbrev pub numbers_said : Deed → Numbers
numbers_said (Changes x) = stored (answer_numbers x.answer)
numbers_said (Loses l) = stored (0 ∷ 0 ∷ 0 ∷ [])
numbers_said (Says ns) = ns

-- what is asked of the queues that a change is stored in
pub record Queued (t : Tables) (x : Change) : Type 0 where
  pub packed : pack_queue (messages_of (get_or t.queues (from_other x) no_queue)) ≡ get_or t.queues (from_other x) no_queue
  pub most : (get_or t.queues (from_other x) no_queue).count ≤ max_messages
  pub takes : Takes x.takes (get_or t.queues (from_other x) no_queue)
  pub after : pack_queue (messages_of (get_or (taken_queues t x) (to_other x) no_queue)) ≡ get_or (taken_queues t x) (to_other x) no_queue
  pub sends : Sends x.sends (get_or (taken_queues t x) (to_other x) no_queue)

-- what is asked of the tables where it is done
abbrev pub Fits : Deed → Tables → Type 0
Fits (Changes y) t = (y.at < max_partitions) × (y.other < max_partitions) × Queued t y
Fits (Loses l) t = Ready t × Sized t
Fits (Says ns) t = Unit

-- the tables with the change stored, without what is lost, or as they were
abbrev pub left_by : Deed → Tables → Tables
left_by (Changes y) t = changed t y
left_by (Loses l) t = pack (lost l (view t))
left_by (Says ns) t = t

-- these tables are what the response x leaves, and the numbers are x's
pub record Does (d : Deed) (t : Tables) (x : Response) : Type 0 where
  pub fits : Fits d t
  pub gives : record { numbers = numbers_said d; session = holding (left_by d t) } ≡ x
