-- What is asked of the tables, said with the clauses of each partition and of each pair, as the code tests it; that it is
-- document 01's order is proved (`proofs/Whole.antt`).
use Rattle.std.specs.Prelude.{Bool, ◌&&◌, List, [], ◌∷◌, ◌%◌, ◌*◌, ◌+◌, ◌/◌, ℕ, leb, ltb, get_or}
use Rattle.lists.specs.Lists.{below, every, pick}
use Rattle.protocol.specs.Bounds.{max_partitions}
use Rattle.tables.specs.View.{absent, no_partition, partition_at, queue_at, records_of, shaped_partition}
use Rattle.tables.specs.declared.Partition.{Partition}
use Rattle.tables.specs.declared.Tables.{Tables}
use Rattle.partitions.specs.Clauses.{partition_fine}
use Rattle.messages.specs.Clauses.{pair_fine}

-- place a of the partitions, where n are there
unfoldable pub place_fine : ℕ → List ℕ → ℕ → Partition → Bool
place_fine n lasts a p = pick (ltb a n) (partition_fine n lasts p) (shaped_partition p && absent p)

abbrev pub lasts_of : List Partition → List ℕ
lasts_of ps = (get_or ps 0 no_partition).last ∷ (get_or ps 1 no_partition).last ∷ (get_or ps 2 no_partition).last ∷ (get_or ps 3 no_partition).last ∷ []

unfoldable pub place_at : ℕ → List Partition → ℕ → Bool
place_at n ps a = place_fine n (lasts_of ps) a (get_or ps a no_partition)

unfoldable pub partitions_fine : ℕ → List Partition → Bool
partitions_fine n ps = every (leb 1 n ∷ leb n max_partitions ∷ below max_partitions (place_at n ps) ∷ [])

-- the pair whose queue stands at place k
unfoldable pub pair_at : Tables → ℕ → Bool
pair_at t k =
    pair_fine ((partition_at t (k / max_partitions)).up && (partition_at t (k % max_partitions)).up)
    (records_of (partition_at t (k / max_partitions)).records)
    (records_of (partition_at t (k % max_partitions)).records)
    (k / max_partitions)
    (k % max_partitions)
    (queue_at t k)
    (queue_at t (k % max_partitions * max_partitions + k / max_partitions))
