-- The nine events as one type, the test that comes before each, and runs of events.
use Rattle.std.specs.Prelude.{Bool, false, true, List, [], ◌∷◌, ℕ}
use Rattle.protocol.specs.Advance.{advance}
use Rattle.protocol.specs.Answers.{Outcome, check}
use Rattle.protocol.specs.Ask.{ask, unlink}
use Rattle.protocol.specs.Deliver.{deliver}
use Rattle.protocol.specs.Elements.{Answer, Create, Link, Name, OutOfOrder}
use Rattle.protocol.specs.Faults.{crash, cut, open_tables, recover}
use Rattle.protocol.specs.Order.{in_order}
use Rattle.protocol.specs.Tables.{Model}

pub data Event : Type 0 where
  linking creating : (p d : ℕ) (s : Name) (q o : ℕ) → Event
  unlinking : (p d : ℕ) (s : Name) → Event
  advancing : (p n : ℕ) → Event
  delivering : (s r : ℕ) → Event
  cutting : (a b : ℕ) → Event
  crashing recovering : (p : ℕ) → Event
  opening : (k : ℕ) → Event

-- the event on tables that are in order
unfoldable pub bare : Event → Model → Outcome
bare (linking p d s q o) m = ask Link m p d s q o
bare (creating p d s q o) m = ask Create m p d s q o
bare (unlinking p d s) m = unlink m p d s
bare (advancing p n) m = advance m p n
bare (delivering s r) m = deliver m s r
bare (cutting a b) m = cut m a b
bare (crashing p) m = crash m p
bare (recovering p) m = recover m p
bare (opening k) m = open_tables m k

-- "Open has no tables to test"
abbrev pub tests : Event → Bool
tests (linking p d s q o) = true
tests (creating p d s q o) = true
tests (unlinking p d s) = true
tests (advancing p n) = true
tests (delivering s r) = true
tests (cutting a b) = true
tests (crashing p) = true
tests (recovering p) = true
tests (opening k) = false

abbrev pub passes : Bool → Model → Bool
passes true m = in_order m
passes false m = true

-- "Every call first tests this."
unfoldable pub apply : Event → Model → Outcome
apply e m = check (passes (tests e) m) OutOfOrder m (bare e m)

-- the tables after a sequence of events, each accepted or refused
unfoldable pub run : List Event → Model → Model
run [] m = m
run (e ∷ es) m = run es (apply e m).model

-- what the events of a sequence answer
unfoldable pub answers : List Event → Model → List Answer
answers [] m = []
answers (e ∷ es) m = (apply e m).answer ∷ answers es (apply e m).model
