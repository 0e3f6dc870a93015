-- A law for each way through the tests that are no plain chain or loop.
use mathlib.Core.Bool.{Bool, ◌&&◌, false, true}
use mathlib.Core.List.{List}
use mathlib.Core.Path.{◌≡◌}
use Prim.Native.Nat.{ℕ}
use lib.Dec.{ltb}
use Rattle.lists.specs.Lists.{pick}
use Rattle.tables.specs.View.{absent, shaped_partition}
use Rattle.tables.specs.declared.Partition.{Partition}
use Rattle.partitions.specs.Clauses.{partition_fine}
use Rattle.order.specs.Clauses.{place_fine}
use Rattle.lists.proofs.Tests.{and_left}
use Rattle.partitions.proofs.Laws.{fine-shaped}

pub place-shaped : (n : ℕ) (lasts : List ℕ) (a : ℕ) (p : Partition) → place_fine n lasts a p ≡ true → shaped_partition p ≡ true
unfolding place_fine
place-shaped n lasts a p h = go (ltb a n) h
  where
    go : (c : Bool) → pick c (partition_fine n lasts p) (shaped_partition p && absent p) ≡ true → shaped_partition p ≡ true
    go true f = fine-shaped n lasts p f
    go false f = and_left _ _ f
