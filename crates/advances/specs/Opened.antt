-- What the layers of an advance have found out: where the record stands, and that there is room for its request.
use Rattle.std.specs.Prelude.{◌≡◌, ℕ, ◌<◌, get_or, length}
use Rattle.tables.specs.declared.Tables.{Tables}
use Rattle.tables.specs.View.{view, partition_at}
use Rattle.protocol.specs.Tables.{queue}
use Rattle.protocol.specs.Bounds.{max_messages, max_partitions}
use Rattle.protocol.specs.declared.Record.{Record}
use Rattle.tables.specs.Slots.{no_record}

-- the record r is open at place i of partition p
pub record OpenAt (t : Tables) (p i : ℕ) (r : Record) : Type 0 where
  pub partition : p < t.count
  pub four : p < max_partitions
  pub place : i < (partition_at t p).records.count
  pub read : r ≡ get_or (partition_at t p).records.items i no_record

-- its object is on partition q, to which there is room for a request
pub record SendsTo (t : Tables) (p : ℕ) (r : Record) (q : ℕ) : Type 0 where
  pub owner : q ≡ r.partition
  pub there : q < t.count
  pub four : q < max_partitions
  pub room : length (queue (view t) p q) < max_messages
