-- Numbers one behind the other in their array: a row, and a square of rows.
use mathlib.Core.List.{List, [], ◌++◌, ◌∷◌, append_assoc}
use mathlib.Core.Path.{◌∙◌, ◌≡◌, ap, refl, sym}
use Prim.Native.Nat.{◌*◌, ◌+◌, ◌<◌, ◌≤◌, ◌-◌, suc, zero, ℕ}
use native.Mathlib.Nat.{mul-le-mul_right, suc-mul}
use native.Mathlib.Numerals.{add-one}
use native.Mathlib.Omega.{arith}
use mir.Syntax.{w64}
use mir.Val.{Fits, Val}
use denote.Array.{Array}
use denote.Builtin.{u32}
use denote.Laws.{Is}
use Rattle.lists.proofs.Arrays.{array_at, array-length}
use lib.ListN.{get_or, length, length-append, length-take}
use lib.ListN.{drop, replicate, take}
use lib.Seq.{get_or-take, take-suc}
use borrow.Rule.Slice.PartMut.{put_mid}
use Rattle.std.proofs.lemmas.List.{drop-replicate}
use Rattle.lists.specs.Lists.{each, pad}
use Rattle.lists.proofs.Fills.{drop-pad, take-pad}
use Rattle.protocol.specs.Bounds.{max_partitions}
use Rattle.rehearsal.specs.Answers.{max_numbers, numbers_of, row, rows, square_of, stored}
use Rattle.rehearsal.specs.Answers.{Numbers}

-- ---- what is stored
pub stored-numbers : (ns : List ℕ) → numbers_of (stored ns) ≡ ns
unfolding stored
stored-numbers ns = take-pad max_numbers 0 ns

-- a list over zeros
filled_with : (ns : List ℕ) (k : ℕ) → k ≡ length ns → record { count = k; items = ns ++ drop k (replicate max_numbers 0) } ≡ stored ns
unfolding stored pad
filled_with ns k e = rw (e, drop-replicate {X = ℕ} (length ns) max_numbers 0) refl

pub list-stored : (ns xs : List ℕ) (k : ℕ) → k ≡ length ns → xs ≡ ns → record { count = k; items = xs ++ drop k (replicate max_numbers 0) } ≡ stored ns
list-stored ns xs k e f = rw f (filled_with ns k e)

pub each-length : {A : Type 0} (n : ℕ) (f : ℕ → A) → length (each n (λ k. f k ∷ [])) ≡ n
unfolding each
each-length zero f = refl
each-length (suc n) f = let p = length-append (each n (λ k. f k ∷ [])) (f n ∷ []) in let q = each-length n f in p ∙ omega arith

row-length : (n : ℕ) (f : ℕ → ℕ) → length (row n f) ≡ n
unfolding row
row-length n f = each-length n f

taken-row : (n : ℕ) (l : List ℕ) → n ≤ length l → take n l ≡ row n (λ k. get_or l k 0)
unfolding row each
taken-row zero l h = refl
taken-row (suc n) l h = take-suc l n 0 (omega arith) ∙ ap (λ (k : List ℕ). k ++ get_or l n 0 ∷ []) (taken-row n l (omega arith))

-- ---- `with_row`: a list over the zeros behind the numbers
module _ (x : Numbers) (ns row : List ℕ) (e : x ≡ stored ns) (h : length ns + length row ≤ max_numbers) where
  counted : x.count ≡ length ns
  unfolding stored
  counted = ap (λ (y : Numbers). y.count) e

  padded : x.items ≡ pad max_numbers 0 ns
  unfolding stored
  padded = ap (λ (y : Numbers). y.items) e

  pub push-end : x.count + length row ≤ max_numbers
  push-end = omega (arith, counted)

  pub push-offset : Fits w64 (x.count * 4)
  push-offset = let l = push-end in record { fits = omega arith }

  pub push-stored : (k : ℕ) (xs : List ℕ) → k ≡ x.count + length row → xs ≡ row
      → record { count = k; items = put_mid x.count (k - x.count) x.items xs } ≡ stored (ns ++ row)
  unfolding stored pad
  push-stored k xs ek ex =
      let l : k ≡ length (ns ++ row) = ek ∙ rw counted (sym (length-append ns row)) in
      let d : k - x.count ≡ length row = omega arith in
      let t : take x.count x.items ≡ ns = rw (counted, padded) (take-pad max_numbers 0 ns) in
      let m : drop (length row) (drop x.count x.items) ≡ replicate (max_numbers - length (ns ++ row)) 0 =
      rw (counted, padded) (ap (drop (length row)) (drop-pad max_numbers 0 ns) ∙ drop-replicate {X = ℕ} (length row) (max_numbers - length ns) 0
      ∙ ap (λ (n : ℕ). replicate {A = ℕ} n 0) (let q = length-append ns row in omega arith))
      in
      let b : put_mid x.count (k - x.count) x.items xs ≡ (ns ++ row) ++ replicate (max_numbers - length (ns ++ row)) 0 =
      rw (d, t, ex, m) (sym (append_assoc ns row _))
      in
      λ i. record { count = l i; items = b i }

pub ruleset pushing = (push-end, push-offset, push-stored)

-- ---- `square`
rows-length : (k n : ℕ) (f : ℕ → ℕ → ℕ) → length (rows k n f) ≡ k * n
unfolding rows each
rows-length zero n f = omega arith
rows-length (suc k) n f = length-append (rows k n f) (row n (f k)) ∙ rw (rows-length k n f, row-length n (f k), suc-mul)

-- each row of the array is as long as its type says
pub row_long : (lengths : List (List ℕ)) (vs : List Val) → Is (Array (Array u32 max_partitions) max_partitions) lengths vs → (side i : ℕ) → side ≤ max_partitions
    → i < length (take side lengths) → side ≤ length (get_or (take side lengths) i [])
row_long lengths vs p side i m h =
    let k : i < side = omega (arith, length-take side lengths) in
    let w = array_at (Array u32 max_partitions) max_partitions lengths vs p i (omega arith) [] in
    let l : length (get_or lengths i []) ≡ max_partitions = array-length u32 max_partitions (get_or lengths i []) _ w.1 in
    rw (get_or-take side lengths i [] k) (omega arith)

module _ (lengths : List (List ℕ)) (side : ℕ) where
  abbrev length_at : ℕ → ℕ → ℕ
  length_at s k = get_or (get_or lengths s []) k 0

  pub record Squaring (x : Numbers) (i : ℕ) : Type 0 where
    pub so_far : x ≡ stored (0 ∷ rows i side length_at)

  pub square-start : (x : Numbers) → x ≡ stored (0 ∷ []) → Squaring x 0
  square-start x e = record { so_far = e ∙ ap (λ (l : List ℕ). stored (0 ∷ l)) (unfold rows each in refl) }

  module _ (x : Numbers) (i : ℕ) (r : Squaring x i) where
    numbers-are : numbers_of x ≡ 0 ∷ rows i side length_at
    numbers-are = rw r.so_far (stored-numbers (0 ∷ rows i side length_at))

    pub square-stored : x ≡ stored (numbers_of x)
    square-stored = rw numbers-are r.so_far

    -- the i-th of the rows that there are
    module _ (h : i < length (take side lengths)) (m : side ≤ max_partitions) (g : side ≤ length (get_or (take side lengths) i [])) where
      abbrev there : List ℕ
      there = take side (get_or (take side lengths) i [])

      inside : i < side
      inside = omega (arith, length-take side lengths)

      row-is : there ≡ row side (length_at i)
      row-is =
          let e : get_or (take side lengths) i [] ≡ get_or lengths i [] = get_or-take side lengths i [] inside in
          rw e (taken-row side (get_or lengths i []) (rw e at g))

      pub square-room : length (numbers_of x) + length there ≤ max_numbers
      square-room =
          let p : suc i * side ≤ max_partitions * side = (let k = inside in mul-le-mul_right side (omega arith)) in
          let q : i * side + side ≤ max_partitions * side = rw suc-mul at p in
          let l = rows-length i side length_at in
          rw (numbers-are, row-is, row-length side (length_at i)) (omega arith)

      pub square-turn : (y : Numbers) → y ≡ stored (numbers_of x ++ there) → Squaring y (i + 1)
      square-turn y e = record { so_far = e ∙ rw (numbers-are, row-is, add-one i) (ap (λ (l : List ℕ). stored (0 ∷ l)) (unfold rows each in refl)) }

    pub square-done : length (take side lengths) ≤ i → i ≤ length (take side lengths) → side ≤ length lengths → (n : ℕ) → side ≡ n
        → x ≡ stored (0 ∷ square_of n length_at)
    square-done h g l n t = let e : i ≡ side = omega (arith, length-take side lengths) in rw (← t) (rw e at r.so_far)

pub ruleset squaring = (square-start, square-stored, square-room, square-turn, square-done)
