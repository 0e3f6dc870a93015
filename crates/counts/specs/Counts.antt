-- What `S` and `Q` count (document 01, 'The rehearsal program'), as the code holds it: of the tables whatever they hold.
use Rattle.std.specs.Prelude.{List, [], ◌∷◌, ◌*◌, ◌+◌, ◌≤◌, min, ℕ, length}
use Rattle.lists.specs.Lists.{each}
use Rattle.protocol.specs.Bounds.{max_backpointers, max_entries, max_messages, max_partitions, max_records}
use Rattle.protocol.specs.Tables.{Model, Totals, queue}
use Rattle.tables.specs.View.{queue_at}
use Rattle.tables.specs.declared.Partition.{Partition}
use Rattle.tables.specs.declared.Tables.{Tables}
use Rattle.rehearsal.specs.Answers.{row}
pub use Rattle.counts.specs.declared.Sums.{Sums}

-- "entries, back-pointers, records, messages over all"
abbrev pub sums_of : Totals → Sums
sums_of x = record { entries = x.entries; backpointers = x.backpointers; records = x.records; messages = x.messages }

-- "the queue lengths as a square, one row for each sender", of partitions that are not there too
unfoldable pub lengths : Model → List (List ℕ)
lengths m = each max_partitions (λ s. row max_partitions (λ r. length (queue m s r)) ∷ [])

-- ---- by the stored counts: an array has no more elements than it is long, whatever its count says

-- a partition's lists brought into the sums
abbrev pub plus_partition : Sums → Partition → Sums
plus_partition x p =
    record {
      entries = x.entries + min p.entries.count max_entries;
      backpointers = x.backpointers + min p.backpointers.count max_backpointers;
      records = x.records + min p.records.count max_records;
      messages = x.messages;
    }

-- no more than all partitions have
pub record Small (x : Sums) : Type 0 where
  pub entries : x.entries ≤ max_partitions * max_entries
  pub backpointers : x.backpointers ≤ max_partitions * max_backpointers
  pub records : x.records ≤ max_partitions * max_records

abbrev pub length_at : Tables → ℕ → ℕ
length_at t k = min (queue_at t k).count max_messages

unfoldable pub lengths_from : Tables → ℕ → List ℕ
lengths_from t s =
    length_at t (s * max_partitions)
    ∷ length_at t (s * max_partitions + 1)
    ∷ length_at t (s * max_partitions + 2)
    ∷ length_at t (s * max_partitions + 3)
    ∷ []
