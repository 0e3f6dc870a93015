-- What an event of one partition does, before it is stored: its answer, and the change of the tables.
use Rattle.std.specs.Prelude.{Bool, false, true, Option, Some, None, List, [], ◌++◌, ◌∷◌, ◌≡◌, ◌*◌, ◌+◌, ◌<◌, ℕ, get_or, set}
use Rattle.lists.specs.Lists.{pick, remove_at}
use Rattle.protocol.specs.Bounds.{max_messages, max_partitions}
use Rattle.protocol.specs.declared.Answer.{Answer}
use Rattle.protocol.specs.declared.Message.{Message}
use Rattle.protocol.specs.declared.Refusal.{Refusal}
use Rattle.protocol.specs.declared.Reply.{Reply}
use Rattle.protocol.specs.declared.Reply.TheVariants.{None as NoReply}
use Rattle.tables.specs.View.{messages_of, no_queue, pack_queue, Queue}
use Rattle.tables.specs.declared.Partition.{Partition}
use Rattle.tables.specs.declared.Tables.{Tables}
use Rattle.answers.specs.Called.{Answered, Ready, acceptance, refusal_with}
pub use Rattle.answers.specs.declared.changes.Change.{Change}

-- ---- the tables after a change

abbrev pub taken_if : Bool → Queue → Queue
taken_if b q = pick b (pack_queue (remove_at 0 (messages_of q))) q

abbrev pub sent_if : Option Message → Queue → Queue
sent_if None q = q
sent_if (Some x) q = pack_queue (messages_of q ++ x ∷ [])

abbrev pub from_other : Change → ℕ
from_other c = c.other * max_partitions + c.at

abbrev pub to_other : Change → ℕ
to_other c = c.at * max_partitions + c.other

-- the oldest message from the other partition is taken off its queue
abbrev pub taken_queues : Tables → Change → List Queue
taken_queues t c = set t.queues (from_other c) (taken_if c.takes (get_or t.queues (from_other c) no_queue))

-- then the message is sent there; with one partition on both sides it is the same queue
abbrev pub sent_queues : Tables → Change → List Queue
sent_queues t c = set (taken_queues t c) (to_other c) (sent_if c.sends (get_or (taken_queues t c) (to_other c) no_queue))

unfoldable pub changed : Tables → Change → Tables
changed t c = record { count = t.count; partitions = set t.partitions c.at c.partition; queues = sent_queues t c }

unfoldable pub applied : Tables → Change → Answered
applied t c = record { answer = c.answer; tables = changed t c }

-- there is a message to take, if one is taken, and room for the one that is sent
pub record Takes (b : Bool) (q : Queue) : Type 0 where
  pub some : b ≡ true → 0 < q.count

pub record Sends (m : Option Message) (q : Queue) : Type 0 where
  pub room : (x : Message) → m ≡ Some x → q.count < max_messages

-- the change can be stored
pub record Applies (t : Tables) (c : Change) : Type 0 where
  pub ready : Ready t
  pub at : c.at < t.count
  pub other : c.other < t.count
  pub takes : Takes c.takes (get_or t.queues (from_other c) no_queue)
  pub sends : Sends c.sends (get_or (taken_queues t c) (to_other c) no_queue)

-- ---- the changes of partition p, which is then x

abbrev pub alone_with : ℕ → Partition → Answer → Change
alone_with p x a = record { answer = a; at = p; other = p; takes = false; sends = None; partition = x }

-- a refusal: x is what it was
abbrev pub keeps_with : ℕ → Partition → Refusal → Change
keeps_with p x why = alone_with p x (refusal_with why)

abbrev pub changes_with : ℕ → Partition → ℕ → Reply → Change
changes_with p x n reply = alone_with p x (acceptance n reply)

-- and a message is sent to q, a message from q taken, or both
abbrev pub exchanges_with : ℕ → ℕ → Partition → ℕ → Bool → Option Message → Change
exchanges_with p q x n takes sends =
    record { answer = acceptance n NoReply; at = p; other = q; takes = takes; sends = sends; partition = x }
