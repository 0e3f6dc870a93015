-- A text put into a buffer has one outcome.
use mathlib.Core.List.{List}
use mathlib.Core.Path.{◌∙◌, ◌≡◌, sym}
use Prim.Native.Nat.{ℕ}
use Rattle.rehearsal.specs.Text.{Puts}

module _ (t before : List ℕ) (at : ℕ) (a b : List ℕ) (p q : ℕ) (r : Puts t before at a p) (s : Puts t before at b q) where
  pub one-text : a ≡ b
  one-text = r.bytes ∙ sym s.bytes

  pub one_place : p ≡ q
  one_place = r.place ∙ sym s.place
