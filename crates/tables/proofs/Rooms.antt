-- The sum in O5, from the counts of the lists.
use mathlib.Core.Bool.{Bool}
use mathlib.Core.List.{List}
use mathlib.Core.Path.{◌≡◌, refl}
use Prim.Native.Nat.{◌+◌, ◌≤◌, ℕ}
use native.Mathlib.Omega.{arith}
use lib.ListN.{length}
use Rattle.std.specs.List.{filter}
use Rattle.lists.proofs.Library.{keep-filter}
use Rattle.lists.specs.Lists.{keep}
use Rattle.lists.proofs.Members.{length-halves}

-- a test keeps no more than there is
pub at_most : {A : Type 0} (f : A → Bool) (l : List A) → length (keep f l) ≤ length l
at_most f l = let e = length-halves f l in omega arith

-- what the library keeps of the list
pub kept-few : {A : Type 0} (f : A → Bool) (l : List A) (n : ℕ) → length l ≤ n → length (filter f l) ≤ n
kept-few f l n h = let a = at_most f l in rw (keep-filter f l) (omega arith)

pub claimed-sum : {A B : Type 0} (es : List A) (test : B → Bool) (rs : List B) (h : ℕ) → h ≡ length (filter test rs) → length es + h ≡ length es + length (keep test rs)
claimed-sum es test rs h e = rw (e, keep-filter test rs) refl
