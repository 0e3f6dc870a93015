-- What the layers of a delivery have found out, when the oldest message from s to r is about to be taken.
use Rattle.std.specs.Prelude.{true, ◌≡◌, ℕ, ◌*◌, ◌+◌, ◌<◌, ◌≤◌, length}
use Rattle.tables.specs.declared.Tables.{Tables}
use Rattle.tables.specs.View.{Stored, queue_at, view}
use Rattle.lists.specs.Lists.{keep, remove_at}
use Rattle.protocol.specs.Tables.{Model, partition, queue, record_bears, set_queue}
use Rattle.protocol.specs.Deliver.{is_exactly}
use Rattle.protocol.specs.Elements.{is_request}
use Rattle.protocol.specs.Bounds.{max_messages, max_partitions}
use Rattle.protocol.specs.declared.Message.{Message}
use Rattle.answers.specs.Called.{Ready}

-- the tables without that message
abbrev pub taken_from : Tables → ℕ → ℕ → Model
taken_from t s r = set_queue (view t) s r (remove_at 0 (queue (view t) s r))

-- the tables have passed the test, and a message from s waits for r
pub record Waits (t : Tables) (s r : ℕ) : Type 0 where
  pub ready : Ready t
  pub from : Stored t s
  pub to : Stored t r
  pub sender : s < max_partitions
  pub receiver : r < max_partitions
  pub some : 0 < (queue_at t (s * max_partitions + r)).count

-- once it is taken there is room for an answer from r to s
pub record Answers (t : Tables) (s r : ℕ) : Type 0 where
  pub waits : Waits t s r
  pub room : length (queue (taken_from t s r) r s) < max_messages

-- at most one back-pointer of r is exactly that of the request x from s
abbrev pub OneExactly : Tables → ℕ → ℕ → Message → Type 0
OneExactly t s r x = length (keep (is_exactly s x) (partition (view t) r).backpointers) ≤ 1

-- at most one record of r bears the number of the answer x
pub record Lands (t : Tables) (s r : ℕ) (x : Message) : Type 0 where
  pub waits : Waits t s r
  pub single : length (keep (record_bears x.number) (partition (view t) r).records) ≤ 1

-- the message is x
pub record Received (t : Tables) (s r : ℕ) (x : Message) : Type 0 where
  pub answers : is_request x.body ≡ true → Answers t s r
  pub exactly : OneExactly t s r x
  pub lands : Lands t s r x
