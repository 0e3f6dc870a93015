-- The loop that reads the records of one kind into an array: a law for each turn and each end.
use mathlib.Core.Bool.{Bool, false, true}
use mathlib.Core.List.{List, [], ◌++◌, ◌∷◌}
use mathlib.Core.Path.{◌∙◌, ◌≡◌, ap, sym}
use Prim.Native.Nat.{◌+◌, ◌-◌, ◌<◌, ◌≤◌, suc, ℕ}
use native.Mathlib.Omega.{arith}
use lib.Dec.{ltb}
use lib.ListN.{drop, length, length-drop}
use lib.Seq.{drop-drop}
use borrow.Author.Tests.{ltb-false, ltb-true}
use Rattle.protocol.specs.declared.Refusal.{Refusal}
use Rattle.protocol.specs.declared.Refusal.TheVariants.{EndsEarly, FieldOutOfRange}
use Rattle.picture.specs.Answers.{within}
use Rattle.picture.specs.Rows.{Read, Row, body, fail, many, marked, more}
use Rattle.lists.proofs.Keep.{snoc-length}
use Rattle.lists.proofs.Tests.{by_test}
use Rattle.codec.proofs.Sizes.{Short}
use Rattle.decoding.proofs.Ways.{body-short}
use Rattle.reading.proofs.Ways.{many-fail, many-full, many-stop, many-turn}

-- the answer Q is the answer at what is left, behind those of the list l
abbrev pub Reading : {A : Type 0} → Row A → (List A → A → Bool) → ℕ → List ℕ → Read (List A) → List A → ℕ → Type 0
Reading w t cap s Q l at = (length l ≤ cap) × (at ≤ length s) × (Q ≡ many w t (cap - length l) l (drop at s))

module _ {A : Type 0} (w : Row A) (t : List A → A → Bool) (cap : ℕ) (s : List ℕ) where
  pub section-start : (at : ℕ) → at ≤ length s → Reading w t cap s (many w t cap [] (drop at s)) [] at
  section-start at h =
      let j : cap - 0 ≡ cap = omega arith in
      (omega arith, h, rw j)

  module _ (Q : Read (List A)) (l : List A) (at : ℕ) (inv : Reading w t cap s Q l at) where
    pub section-fail : (k : Refusal) → marked w (drop at s) ≡ true → body w FieldOutOfRange (t l) (drop at s) ≡ fail k → Q ≡ fail k
    section-fail k m e = inv.2 ∙ many-fail w t l (drop at s) (cap - length l) k m e

    pub section-full : (x : A) (r : List ℕ) → marked w (drop at s) ≡ true → body w FieldOutOfRange (t l) (drop at s) ≡ more x r → cap ≤ length l → Q ≡ fail FieldOutOfRange
    section-full x r m e h =
        let i : cap - length l ≡ 0 = omega arith in
        inv.2 ∙ rw i (many-full w t l (drop at s) x r m e)

    pub section-turn : (x : A) (size : ℕ) → marked w (drop at s) ≡ true → body w FieldOutOfRange (t l) (drop at s) ≡ more x (drop size (drop at s)) → length l < cap → at + size ≤ length s
        → Reading w t cap s Q (l ++ x ∷ []) (at + size)
    section-turn x size m e h g =
        let n : length (l ++ x ∷ []) ≡ length l + 1 = omega (arith, snoc-length l x) in
        let i : cap - length l ≡ suc (cap - length (l ++ x ∷ [])) = omega (arith, n) in (
          omega (arith, n),
          g,
          inv.2 ∙ ap (λ (j : ℕ). many w t j l (drop at s)) i ∙ many-turn w t l (drop at s) (cap - length (l ++ x ∷ [])) x (drop size (drop at s)) m e ∙ ap (λ (r : List ℕ). many w t (cap - length (l ++ x ∷ [])) (l ++ x ∷ []) r) (drop-drop size at s),
        )

    pub section-end : marked w (drop at s) ≡ false → Q ≡ more l (drop at s)
    section-end m = inv.2 ∙ many-stop w t l (drop at s) (cap - length l) m

-- a record that is read is there
pub body-long : {A : Type 0} (w : Row A) (n : ℕ) (k : Refusal) → 0 < n → Short w.form n → (t : A → Bool) (s : List ℕ) (x : A) (r : List ℕ) → body w k t s ≡ more x r → n + 2 ≤ length s
body-long w n k p z t s x r e =
    by_test (ltb (length s) (n + 2))
    (λ i.
    let g : length s < n + 2 = ltb-true _ _ i in
    let h : body w k t s ≡ fail EndsEarly = body-short w k t s (z (drop 2 s) (omega (arith, length-drop 2 s))) in
    let o : ◌≡◌ {A = ℕ} 0 1 = cc in absurd (omega arith))
    (λ i. ltb-false _ _ i)

-- and so is one more of its kind
pub one_more-long : {A : Type 0} (w : Row A) (t : A → Bool) (size : ℕ) (s : List ℕ) (at : ℕ) (full : Bool) (x : A) (q : List ℕ) → 2 < size → Short w.form (size - 2) → at ≤ length s
    → more x q ≡ within full (body w FieldOutOfRange t (drop at s)) → at + size ≤ length s
one_more-long {A} w t size s at full x q g short h e =
    omega (arith, body-long w (size - 2) FieldOutOfRange (omega arith) short t (drop at s) x q (over (body w FieldOutOfRange t (drop at s)) e), length-drop at s)
  where
    over : (Q : Read A) → more x q ≡ within full Q → Q ≡ more x q
    over (fail k) i = cc
    over (more y r) i = by_test full (λ f. let k : more x q ≡ fail FieldOutOfRange = rw f at i in cc) (λ f. let k : more x q ≡ more y r = rw f at i in sym k)
