-- A law for each way through the tests that are no plain chain or loop.
use mathlib.Core.Bool.{Bool, ◌&&◌, false, true}
use mathlib.Core.List.{List}
use mathlib.Core.Path.{◌∙◌, ◌≡◌, refl, sym}
use Prim.Native.Nat.{◌+◌, ◌≤◌, suc, zero, ℕ}
use native.Mathlib.Omega.{arith}
use lib.Dec.{leb}
use lib.ListN.{get_or, length}
use borrow.Author.Tests.{le-leb, leb-true, lt-leb}
use Rattle.lists.specs.Lists.{keep}
use Rattle.protocol.specs.Bounds.{max_entries, max_partitions}
use Rattle.protocol.specs.Tables.{unentered}
use Rattle.protocol.specs.declared.Backpointer.{Backpointer}
use Rattle.protocol.specs.declared.Entry.{Entry}
use Rattle.protocol.specs.declared.Record.{Record}
use Rattle.tables.specs.View.{shaped_partition}
use Rattle.tables.specs.declared.Partition.{Partition}
use Rattle.partitions.specs.Clauses.{backpointer_given, backpointers_fine, entries_fine, given, partition_fine, records_fine, room_in}
use Rattle.lists.proofs.Images.{get_or-past}
use Rattle.lists.proofs.Tests.{◌also◌, done, every-at, every_of}
use Rattle.tables.proofs.Rooms.{at_most}

-- ---- O4: a parent that is no place of the list gave no number
nothing-given : (n : ℕ) → false ≡ given 0 n
unfolding given
nothing-given zero = refl
nothing-given (suc n) = rw (lt-leb (suc n) 0 (omega arith)) (go (leb 1 (suc n)))
  where
    go : (b : Bool) → false ≡ (b && false)
    go true = refl
    go false = refl

module _ (lasts : List ℕ) (b : Backpointer) where
  pub given-past : length lasts ≡ max_partitions → max_partitions ≤ b.parent → false ≡ backpointer_given lasts b
  unfolding backpointer_given
  given-past e h = let p : length lasts ≤ b.parent = omega arith in nothing-given b.number ∙ rw (get_or-past lasts b.parent 0 p)

  pub given-here : (last : ℕ) → last ≡ get_or lasts b.parent 0 → (r : Bool) → r ≡ given last b.number → r ≡ backpointer_given lasts b
  unfolding backpointer_given
  given-here last e r t = rw (← e) t

pub ruleset givens = (given-past, given-here)

-- ---- O5
module _ (es : List Entry) (rs : List Record) where
  pub room-few : leb (length es + length rs) max_entries ≡ true → leb (length es + length rs) max_entries ≡ room_in es rs
  unfolding room_in
  room-few h = let kept = at_most (unentered es) rs in let few = leb-true _ _ h in h ∙ sym (le-leb _ _ (omega arith))

  pub room-counted : (c : ℕ) → c ≡ length es + length (keep (unentered es) rs) → leb c max_entries ≡ room_in es rs
  unfolding room_in
  room-counted c e = rw e

pub ruleset rooms = (room-few, room-counted)

-- ---- one partition
pub fine-shaped : (n : ℕ) (lasts : List ℕ) (p : Partition) → partition_fine n lasts p ≡ true → shaped_partition p ≡ true
unfolding partition_fine entries_fine backpointers_fine records_fine shaped_partition
fine-shaped n lasts p h = every_of _ (every-at _ (every-at _ h 0) 0 also every-at _ (every-at _ h 1) 0 also every-at _ (every-at _ h 2) 0 also done)
