-- The shapes of the table's rows: what holds of each row, and how a letter finds its row.
use mathlib.Core.Bool.{Bool, false, not, true}
use mathlib.Core.List.{List, [], ◌∷◌}
use mathlib.Core.Path.{◌∙◌, ◌≡◌, ap, refl, sym}
use Prim.Native.Nat.{◌<◌, ◌≤◌, ℕ}
use lib.Dec.{eqb, leb}
use lib.ListN.{get_or, length}
use borrow.Author.Tests.{eqb-true, leb-true}
use Rattle.lists.specs.Lists.{all, below, keep}
use Rattle.lists.proofs.Keep.{keep-cons-other}
use Rattle.lists.proofs.Members.{all-get}
use Rattle.lists.proofs.Tests.{below_at, no_true, not-true}
use Rattle.names.specs.Names.{same_bytes}
use Rattle.names.proofs.Laws.{bytes-true}
use Rattle.rehearsal.specs.Line.{Row, a_number, bears, first_row, max_words, no_row, row_for, table}
use Rattle.rehearsal.proofs.Rows.{row-cases, tabled}
use Rattle.std.specs.Option.{option_eq}
use Rattle.std.specs.Prelude.{Option, Some, None}
use native.Mathlib.Omega.{arith}
use Rattle.lines.specs.Places.{Shape, first_shape, is_name, nameplace, row_found, shape_of}

-- the table, its search and its shapes opened: a proof that names it computes with them
unfoldable pub shaped : Unit {0}
unfolding tabled below nameplace row_found
shaped = tt

-- a test that every row passes, and the one that stands for none
of_row : (f : Row → Bool) → all f table ≡ true → f no_row ≡ true → (w : List ℕ) → f (row_for w) ≡ true
of_row f t n w = row-cases w (λ (r : Row). f r ≡ true) n (λ r m b. all-get f table t r m)

pub row-short : (w : List ℕ) → length (row_for w).forms ≤ max_words
unfolding shaped
row-short w = leb-true _ _ (of_row (λ (r : Row). leb (length r.forms) max_words) refl refl w)

-- a row has one name at most, where its shape says
same : Bool → Bool → Bool
same true b = b
same false b = not b

same_true : (a b : Bool) → same a b ≡ true → a ≡ b
unfolding same
same_true true true e = refl
same_true true false e = no_true e refl
same_true false true e = no_true e refl
same_true false false e = refl

-- whether the name stands at this place
abbrev pub stands_at : ℕ → Option ℕ → Bool
stands_at k o = option_eq eqb o (Some k)

named_well : Row → Bool
named_well r = below (length r.forms) (λ k. same (is_name (get_or r.forms k a_number)) (stands_at k (nameplace r.forms)))

rows_named : (w : List ℕ) → named_well (row_for w) ≡ true
unfolding shaped named_well same
rows_named w = of_row named_well refl refl w

pub row_named : (w : List ℕ) (k : ℕ) → k < length (row_for w).forms
    → is_name (get_or (row_for w).forms k a_number) ≡ stands_at k (nameplace (row_for w).forms)
unfolding named_well
row_named w k h =
    same_true _ _
    (below_at (length (row_for w).forms) (λ k. same (is_name (get_or (row_for w).forms k a_number)) (stands_at k (nameplace (row_for w).forms)))
    (rows_named w) k h)

-- ---- a first word that is no letter has no row
alone : Row → Bool
alone r = eqb (length r.letter) 1

rows-alone : all alone table ≡ true
unfolding shaped alone
rows-alone = refl

pub row_other : (w : List ℕ) → (length w ≡ 1 → ⊥) → row_for w ≡ no_row
unfolding alone
row_other w h =
    row-cases w (λ (r : Row). r ≡ no_row) refl
    (λ r m b. absurd (h (ap length (sym (bytes-true r.letter w b)) ∙ eqb-true _ _ (all-get alone table rows-alone r m))))

-- ---- `shape_of`: a letter that is given, and one that is none of the table's
pub by-letter : (b x : ℕ) (r y : Shape) → b ≡ x → r ≡ y → Some y ≡ row_found (x ∷ []) → Some r ≡ row_found (b ∷ [])
by-letter b x r y e f h = rw (e, f) h

module _ (b : ℕ) where
  -- b is no letter of these rows, in the words in which a `match` tells it
  abbrev pub NoneOf : Type 0 → List Row → Type 0
  NoneOf before [] = before
  NoneOf before (r ∷ rs) = NoneOf (before × (b ≡ get_or r.letter 0 0 → ⊥)) rs

  earlier : (before : Type 0) (rs : List Row) → NoneOf before rs → before
  earlier before [] h = h
  earlier before (r ∷ rs) h = (earlier (before × (b ≡ get_or r.letter 0 0 → ⊥)) rs h).0

  unlike : (l : List ℕ) → (b ≡ get_or l 0 0 → ⊥) → same_bytes l (b ∷ []) ≡ false
  unlike l h = not-true _ (λ e. h (sym (ap (λ (m : List ℕ). get_or m 0 0) (bytes-true l (b ∷ []) e))))

  kept-none : (before : Type 0) (rs : List Row) → NoneOf before rs → keep (bears (b ∷ [])) rs ≡ []
  kept-none before [] h = unfold keep in refl
  kept-none before (r ∷ rs) h =
      keep-cons-other (bears (b ∷ [])) rs r (unlike r.letter (earlier (before × (b ≡ get_or r.letter 0 0 → ⊥)) rs h).1)
      ∙ kept-none (before × (b ≡ get_or r.letter 0 0 → ⊥)) rs h

  pub by-none : NoneOf Unit table → None ≡ row_found (b ∷ [])
  unfolding row_found
  by-none h = rw (kept-none Unit table h) refl

-- ---- what a row that was found, or none, says of the row
found-is : (o : List Row) (r : Shape) → Some r ≡ first_shape o → r ≡ shape_of (first_row o)
found-is [] r e = cc
found-is (x ∷ o) r e = cc

found-none : (o : List Row) → None ≡ first_shape o → first_row o ≡ no_row
found-none [] e = refl
found-none (x ∷ o) e = let z : ◌≡◌ {A = ℕ} 0 1 = cc in absurd (omega arith)

pub row_of : (w : List ℕ) (r : Shape) → Some r ≡ row_found w → r ≡ shape_of (row_for w)
unfolding row_found row_for
row_of w r e = found-is (keep (bears w) table) r e

pub row_none : (w : List ℕ) → None ≡ row_found w → row_for w ≡ no_row
unfolding row_found row_for
row_none w e = found-none (keep (bears w) table) e
