-- What a value of a declared type tells of its parts: how long its arrays are, and how large its numbers.
use mathlib.Core.Path.{◌≡◌}
use mathlib.Core.List.{List, [], ◌∷◌}
use Prim.Native.Nat.{ℕ, ◌<◌}
use lib.ListN.{length}
use mir.Val.{Val}
use denote.Laws.{Is}
use borrow.Author.Rules.{rules}
use Rattle.lists.proofs.Arrays.{length-of, array_at}
use Rattle.protocol.specs.Bounds.{max_partitions, max_entries, max_backpointers, max_records, max_messages, queue_count}
use Rattle.tables.specs.View.{partition_at, no_partition, queue_at, no_queue, SizedPartition, Sized, Entries, Backpointers, Records, Queue}
use Rattle.tables.specs.declared.Partition.{Partition}
use Rattle.tables.specs.declared.Tables.{Tables}
use Rattle.lists.specs.contracts.Bounded as bounded
use denote.Param.{number}
use Rattle.lists.specs.contracts.Bounded as bounded
use Rattle.protocol.specs.contracts.Backpointer as backpointer
use Rattle.protocol.specs.contracts.Entry as entry
use Rattle.protocol.specs.contracts.Message as message
use Rattle.protocol.specs.contracts.Record as record'
use Rattle.tables.specs.contracts.Partition as partition
use Rattle.tables.specs.contracts.Tables as tables

module _ (x : Entries) (vs : List Val) (h : Is (bounded.the_row entry.the_row (number max_entries)) x vs) where
  pub entries-length : length x.items ≡ max_entries
  entries-length = search length-of

module _ (x : Backpointers) (vs : List Val) (h : Is (bounded.the_row backpointer.the_row (number max_backpointers)) x vs) where
  pub backpointers-length : length x.items ≡ max_backpointers
  backpointers-length = search length-of

module _ (x : Records) (vs : List Val) (h : Is (bounded.the_row record'.the_row (number max_records)) x vs) where
  pub records-length : length x.items ≡ max_records
  records-length = search length-of

module _ (x : Queue) (vs : List Val) (h : Is (bounded.the_row message.the_row (number max_messages)) x vs) where
  pub messages-length : length x.items ≡ max_messages
  messages-length = search length-of

pub sized-partition : (p : Partition) (vs : List Val) → Is partition.the_row p vs → SizedPartition p
sized-partition p vs h =
    record {
      last = search rules;
      entries = entries-length p.entries _ h.1.1.1.1.0;
      backpointers = backpointers-length p.backpointers _ h.1.1.1.1.1.0;
      records = records-length p.records _ h.1.1.1.1.1.1.0;
    }

module _ (t : Tables) (vs : List Val) (h : Is tables.the_row t vs) where
  pub partitions-length : length t.partitions ≡ max_partitions
  partitions-length = search length-of

  pub queues-length : length t.queues ≡ queue_count
  queues-length = search length-of

  partition-sized : (i : ℕ) → i < max_partitions → SizedPartition (partition_at t i)
  partition-sized i l =
      let w = array_at partition.the_row max_partitions t.partitions _ h.1.1.1.0 i l no_partition in
      sized-partition (partition_at t i) (w.0 ∷ []) w.1

  queue-sized : (k : ℕ) → k < queue_count → length (queue_at t k).items ≡ max_messages
  queue-sized i l =
      let w = array_at (bounded.the_row message.the_row (number max_messages)) queue_count t.queues _ h.1.1.1.1.0 i l no_queue in
      messages-length (queue_at t i) (w.0 ∷ []) w.1

  pub sized : Sized t
  sized = record { partitions = partitions-length; queues = queues-length; partition = partition-sized; queue = queue-sized }
