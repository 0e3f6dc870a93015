-- Each way through a mark and through a record.
use mathlib.Core.Bool.{Bool, ◌&&◌, and-false, and-true, false, true}
use mathlib.Core.List.{List, [], ◌∷◌}
use mathlib.Core.Path.{◌∙◌, ◌≡◌, ap, refl, sym}
use Prim.Native.Nat.{ℕ}
use native.Mathlib.Omega.{arith}
use lib.Dec.{eqb}
use lib.ListN.{drop, get_or, length}
use borrow.Author.Tests.{eq-eqb, eqb-true, ne_eqb}
use Rattle.std.specs.List.{starts_with}
use Rattle.lists.proofs.Tests.{by_test}
use Rattle.protocol.specs.declared.Refusal.{Refusal}
use Rattle.protocol.specs.declared.Refusal.TheVariants.{EndsEarly, FieldOutOfRange}
use Rattle.codec.specs.Codec.{bad, got, none}
use Rattle.picture.specs.Rows.{Row, begins, body, fail, judged, more}

-- ---- the mark

eqb-turned : (a b : ℕ) → eqb a b ≡ eqb b a
eqb-turned a b = by_test (eqb a b) (λ t. t ∙ sym (eq-eqb b a (sym (eqb-true a b t)))) (λ f. f ∙ sym (ne_eqb b a (λ e. absurd (no e f))))
  where
    no : b ≡ a → eqb a b ≡ false → ⊥
    no e f = let t : true ≡ false = sym (eq-eqb a b (sym e)) ∙ f in cc

-- a slice that starts with two bytes
pub mark-starts : (s mark : List ℕ) → length mark ≡ 2 → starts_with eqb s mark ≡ begins (get_or mark 0 0) (get_or mark 1 0) s
unfolding begins
mark-starts s [] h = absurd (omega arith)
mark-starts s (x ∷ []) h = absurd (omega arith)
mark-starts s (x ∷ y ∷ z ∷ m) h = absurd (omega arith)
mark-starts [] (x ∷ y ∷ []) h = refl
mark-starts (a ∷ []) (x ∷ y ∷ []) h = and-false (eqb x a)
mark-starts (a ∷ b ∷ s) (x ∷ y ∷ []) h = rw (eqb-turned x a, eqb-turned y b) (ap (λ (k : Bool). eqb a x && k) (and-true (eqb b y)))

-- ---- a record
module _ {A : Type 0} (w : Row A) where
  module _ (k : Refusal) (t : A → Bool) (s : List ℕ) where
    pub body-short : w.form.get (drop 2 s) ≡ none → body w k t s ≡ fail EndsEarly
    unfolding body judged
    body-short e = rw e

    pub body-none : w.form.get (drop 2 s) ≡ bad → body w k t s ≡ fail FieldOutOfRange
    unfolding body judged
    body-none e = rw e

    pub body-bad : (x : A) (r : List ℕ) → w.form.get (drop 2 s) ≡ got x r → t x ≡ false → body w k t s ≡ fail k
    unfolding body judged
    body-bad x r e h = rw (e, h)

    pub body-good : (x : A) (r : List ℕ) → w.form.get (drop 2 s) ≡ got x r → t x ≡ true → body w k t s ≡ more x r
    unfolding body judged
    body-good x r e h = rw (e, h)
