-- What is lost by a cut or a crash, as `lose` asks it, and what that leaves.
use Rattle.std.specs.Prelude.{◌%◌, ◌/◌, ℕ, Bool, ◌&&◌, false, not, [], eqb}
use Rattle.lists.specs.Lists.{pick}
use Rattle.protocol.specs.Bounds.{max_partitions}
use Rattle.protocol.specs.Faults.{between, falls_with, lose, relapsed, sent_between, touches}
use Rattle.protocol.specs.Tables.{Model, Partition, set_up, with_up}
use Rattle.protocol.specs.declared.Record.{Record}
use Rattle.tables.specs.View.{pack_queue, Queue}
pub use Rattle.losses.specs.declared.Loss.{Loss}
use Rattle.losses.specs.declared.Loss.TheVariants.{Crash, Cut}

-- what is lost, as `lose` asks it: which records of partition p relapse, and which queues empty
abbrev pub relapses_of : Loss → ℕ → Record → Bool
relapses_of (Cut a b) p r = sent_between a b p r
relapses_of (Crash q) p r = falls_with q p r

abbrev pub empties_of : Loss → ℕ → ℕ → Bool
empties_of (Cut a b) s r = between a b s r
empties_of (Crash p) s r = touches p s r

-- all that a cut or a crash does to the tables: who crashes is down
unfoldable pub lost : Loss → Model → Model
lost (Cut a b) m = lose (sent_between a b) (between a b) m
lost (Crash p) m = set_up (lose (falls_with p) (touches p) m) p false

-- ---- the same place by place

-- whether partition p is up, if it was or not
abbrev pub up_after : Loss → ℕ → Bool → Bool
up_after (Cut a b) p up = up
up_after (Crash q) p up = up && not (eqb p q)

abbrev pub partition_after : Loss → ℕ → Partition → Partition
partition_after loss p x = with_up (up_after loss p x.up) (relapsed (relapses_of loss) p x)

-- the stored queue at place i
abbrev pub queue_after : Loss → ℕ → Queue → Queue
queue_after loss i q = pick (empties_of loss (i / max_partitions) (i % max_partitions)) (pack_queue []) q
