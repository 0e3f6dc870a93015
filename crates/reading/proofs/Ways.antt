-- Each way through the records of one kind.
use mathlib.Core.Bool.{Bool, false, true}
use mathlib.Core.List.{List, [], ◌++◌, ◌∷◌}
use mathlib.Core.Path.{◌≡◌, refl}
use Prim.Native.Nat.{suc, zero, ℕ}
use Rattle.lists.specs.Lists.{pick}
use Rattle.protocol.specs.declared.Refusal.{Refusal}
use Rattle.protocol.specs.declared.Refusal.TheVariants.{FieldOutOfRange}
use Rattle.codec.specs.Codec.{Got, bad, got, none}
use Rattle.picture.specs.Rows.{Read, Row, body, fail, judged, many, marked, more, next}

module _ {A : Type 0} (w : Row A) where
  module _ (t : List A → A → Bool) (earlier : List A) (bs : List ℕ) where
    pub many-stop : (n : ℕ) → marked w bs ≡ false → many w t n earlier bs ≡ more earlier bs
    unfolding many
    many-stop zero m = rw m
    many-stop (suc n) m = rw m

    none-fits : (k : Refusal) (g : Got A) → judged FieldOutOfRange (t earlier) g ≡ fail k → judged FieldOutOfRange (λ (x : A). false) g ≡ fail k
    unfolding judged
    none-fits k none e = cc
    none-fits k bad e = cc
    none-fits k (got x r) e = by (t earlier x) e
      where
        by : (b : Bool) → ◌≡◌ {A = Read A} (pick b (more x r) (fail FieldOutOfRange)) (fail k) → ◌≡◌ {A = Read A} (fail FieldOutOfRange) (fail k)
        by true i = cc
        by false i = i

    none-fits-more : (x : A) (r : List ℕ) (g : Got A) → judged FieldOutOfRange (t earlier) g ≡ more x r → judged FieldOutOfRange (λ (x : A). false) g ≡ fail FieldOutOfRange
    unfolding judged
    none-fits-more x r none e = cc
    none-fits-more x r bad e = refl
    none-fits-more x r (got y q) e = refl

    pub many-fail : (n : ℕ) (k : Refusal) → marked w bs ≡ true → body w FieldOutOfRange (t earlier) bs ≡ fail k → many w t n earlier bs ≡ fail k
    unfolding many next body
    many-fail zero k m e = rw (m, none-fits k _ e)
    many-fail (suc n) k m e = rw (m, e)

    pub many-full : (x : A) (r : List ℕ) → marked w bs ≡ true → body w FieldOutOfRange (t earlier) bs ≡ more x r → many w t zero earlier bs ≡ fail FieldOutOfRange
    unfolding many next body
    many-full x r m e = rw (m, none-fits-more x r _ e)

    pub many-turn : (n : ℕ) (x : A) (r : List ℕ) → marked w bs ≡ true → body w FieldOutOfRange (t earlier) bs ≡ more x r → many w t (suc n) earlier bs ≡ many w t n (earlier ++ x ∷ []) r
    unfolding many next
    many-turn n x r m e = rw (m, e)
