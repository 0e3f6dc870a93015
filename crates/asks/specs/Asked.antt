-- What the layers of an ask have found out: the arguments that are in range, and that there is room.
use Rattle.std.specs.Prelude.{true, ◌≡◌, ℕ, ◌<◌}
use Rattle.tables.specs.declared.Tables.{Tables}
use Rattle.tables.specs.View.{view, partition_at}
use Rattle.protocol.specs.Order.{in_range}
use Rattle.protocol.specs.Bounds.{largest_number, max_records}

-- partition p has a number to give, and room for a record
pub record Opens (t : Tables) (p : ℕ) : Type 0 where
  pub last : (partition_at t p).last < largest_number
  pub records : (partition_at t p).records.count < max_records

-- directory d and object o of partition q are in range
pub record Placed (t : Tables) (d q o : ℕ) : Type 0 where
  pub directory : d < 256
  pub owner : q < 256
  pub object : o < 256
  pub test : in_range (view t) d q o ≡ true
