-- Bytes laid over others, one run of them behind another.
use mathlib.Core.List.{List, [], ◌++◌, ◌∷◌, append_assoc, append-nil}
use mathlib.Core.Path.{◌∙◌, ◌≡◌, ap, subst, sym}
use Prim.Native.Nat.{◌%◌, ◌+◌, ◌/◌, ◌<◌, ◌≤◌, suc, ℕ}
use native.Mathlib.Numerals.{add-one}
use native.Mathlib.Omega.{arith}
use lib.ListN.{drop, get_or, length, length-append, length-drop, length-take, set, take, take-append-drop}
use lib.Seq.{drop-append-add, drop-drop, length-take-le, paste-suc, sets-eq, take_at}
use Rattle.codec.specs.Codec.{be2, be4}
use Rattle.codec.specs.Over.{over}

module _ (l : List ℕ) (at : ℕ) where
  pub over_none : l ≡ over l at []
  unfolding over
  over_none = let e : at + 0 ≡ at = omega arith in rw (append-nil (take at l), e) (sym (take-append-drop at l))

  pub length_over : (xs : List ℕ) → at + length xs ≤ length l → length (over l at xs) ≡ length l
  unfolding over
  length_over xs h = simp (length-append, length-take, length-drop) (omega arith)

  -- what is laid behind what was laid
  pub over-over : (xs ys : List ℕ) → at + length xs + length ys ≤ length l → over (over l at xs) (at + length xs) ys ≡ over l at (xs ++ ys)
  unfolding over
  over-over xs ys h =
      let p = take at l ++ xs in
      let q = drop (at + length xs) l in
      let e : length p ≡ at + length xs = length-append (take at l) xs ∙ rw (length-take-le at l (omega arith)) in
      let f : at + length xs + length ys ≡ at + length (xs ++ ys) = omega (arith, length-append xs ys) in
      let d : drop (at + length xs + length ys) (p ++ q) ≡ drop (at + length (xs ++ ys)) l =
      subst (λ (k : ℕ). drop (k + length ys) (p ++ q) ≡ drop (at + length (xs ++ ys)) l) e
      (drop-append-add p q (length ys) ∙ drop-drop (length ys) (at + length xs) l ∙ ap (λ (k : ℕ). drop k l) f) in
      rw (take_at p q (at + length xs) e, d) (ap (λ (t : List ℕ). t ++ drop (at + length (xs ++ ys)) l) (append_assoc (take at l) xs ys))

-- one thing laid behind another
pub laid : (l b1 b2 : List ℕ) (at k : ℕ) (xs ys : List ℕ) → b1 ≡ over l at xs → b2 ≡ over b1 (at + k) ys → length xs ≡ k → at + k + length ys ≤ length l → b2 ≡ over l at (xs ++ ys)
laid l b1 b2 at k xs ys p q e h =
    q ∙ ap (λ (b : List ℕ). over b (at + k) ys) p ∙ ap (λ (j : ℕ). over (over l at xs) (at + j) ys) (sym e) ∙ over-over l at xs ys (omega arith)
