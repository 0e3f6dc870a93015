-- Sums over numbers, and lists counted by their numbers.
use mathlib.Core.List.{List, Memᴰ, [], ◌∷◌}
use mathlib.Core.Path.{◌∙◌, ◌≡◌, ap, refl, sym}
use Prim.Native.Nat.{◌*◌, ◌+◌, ◌<◌, ◌≤◌, suc, zero, ℕ}
use native.Mathlib.Nat.{le_of_eq, le_refl}
use native.Mathlib.Omega.{arith}
use lib.Dec.{eqb}
use lib.ListN.{get_or, length}
use borrow.Author.Tests.{eqb-false, eqb-true, ne_eqb}
use Rattle.lists.specs.Lists.{keep, total}
use Rattle.lists.proofs.Keep.{tally}
use Rattle.lists.proofs.Tests.{by_test, hit}

unfoldable pub sum : ℕ → (ℕ → ℕ) → ℕ
sum zero f = 0
sum (suc k) f = sum k f + f k

pub sum-le : (k : ℕ) (f g : ℕ → ℕ) → ((i : ℕ) → i < k → f i ≤ g i) → sum k f ≤ sum k g
unfolding sum
sum-le zero f g h = le_refl 0
sum-le (suc k) f g h = let a = sum-le k f g (λ i l. h i (omega arith)) in let b = h k (le_refl _) in omega arith

pub sum_lt : (k : ℕ) (f g : ℕ → ℕ) → ((i : ℕ) → f i ≤ g i) → (j : ℕ) → j < k → f j < g j → sum k f < sum k g
unfolding sum
sum_lt zero f g h j l lt = absurd (omega arith)
sum_lt (suc k) f g h j l lt =
    by_test (eqb j k)
    (λ t. let e : f k < g k = rw (eqb-true j k t) at lt in let a = sum-le k f g (λ i l. h i) in omega arith)
    (λ t. let n = eqb-false j k t in let a = sum_lt k f g h j (omega arith) lt in let b = h k in omega arith)

pub sum-times : (k : ℕ) (f : ℕ → ℕ) → sum k (λ i. 8 * f i) ≡ 8 * sum k f
unfolding sum
sum-times zero f = refl
sum-times (suc k) f = let a = sum-times k f in omega arith

pub sum-add : (k : ℕ) (f g : ℕ → ℕ) → sum k (λ i. f i + g i) ≡ sum k f + sum k g
unfolding sum
sum-add zero f g = refl
sum-add (suc k) f g = let a = sum-add k f g in omega arith

pub sum-zero : (k : ℕ) (f : ℕ → ℕ) → sum k f ≡ 0 → (i : ℕ) → i < k → f i ≡ 0
unfolding sum
sum-zero zero f e i l = absurd (omega arith)
sum-zero (suc k) f e i l =
    by_test (eqb i k)
    (λ t. rw (eqb-true i k t) (omega arith))
    (λ t. let n = eqb-false i k t in sum-zero k f (omega arith) i (omega arith))

-- at most one place is hit
sum_past : (k j : ℕ) → k ≤ j → sum k (λ i. hit (eqb j i)) ≡ 0
unfolding sum
sum_past zero j l = refl
sum_past (suc k) j l = let a = sum_past k j (omega arith) in rw (ne_eqb j k (λ e. omega arith)) (omega arith)

sum-hit : (k j : ℕ) → sum k (λ i. hit (eqb j i)) ≤ 1
unfolding sum
sum-hit zero j = omega arith
sum-hit (suc k) j =
    by_test (eqb j k)
    (λ t. let a = sum_past k j (let e = eqb-true j k t in omega arith) in rw t (omega arith))
    (λ t. let a = sum-hit k j in rw t (omega arith))

sum-nil : (k : ℕ) → sum k (λ i. 0) ≤ 0
unfolding sum
sum-nil zero = le_refl 0
sum-nil (suc k) = let a = sum-nil k in omega arith

-- the elements counted by their numbers
module _ {A : Type 0} (number : A → ℕ) where
  pub by_number : (k : ℕ) (l : List A) → sum k (λ i. length (keep (λ x. eqb (number x) i) l)) ≤ length l
  unfolding keep
  by_number k [] = sum-nil k
  by_number k (x ∷ l) =
      let a = sum-le k (λ i. length (keep (λ y. eqb (number y) i) (x ∷ l))) (λ i. hit (eqb (number x) i) + length (keep (λ y. eqb (number y) i) l))
      (λ i h. le_of_eq (tally (λ y. eqb (number y) i) x l)) in
      let b = sum-add k (λ i. hit (eqb (number x) i)) (λ i. length (keep (λ y. eqb (number y) i) l)) in
      let c = sum-hit k (number x) in
      let d = by_number k l in
      omega arith

pub sum-ge : (k : ℕ) (f : ℕ → ℕ) (j : ℕ) → j < k → f j ≤ sum k f
unfolding sum
sum-ge zero f j h = absurd (omega arith)
sum-ge (suc k) f j h =
    by_test (eqb j k)
    (λ t. rw (eqb-true j k t) (omega arith))
    (λ t. let a = sum-ge k f j (let n = eqb-false j k t in omega arith) in omega arith)

-- and no fewer, where the numbers are below k
sum-hit-one : (k j : ℕ) → j < k → 1 ≤ sum k (λ i. hit (eqb j i))
unfolding sum
sum-hit-one zero j h = absurd (omega arith)
sum-hit-one (suc k) j h =
    by_test (eqb j k)
    (λ t. rw t (omega arith))
    (λ t. let a = sum-hit-one k j (let n = eqb-false j k t in omega arith) in omega arith)

pub by-number-ge : {A : Type 0} (number : A → ℕ) (k : ℕ) (l : List A) → ((x : A) → Memᴰ x l → number x < k)
    → length l ≤ sum k (λ i. length (keep (λ x. eqb (number x) i) l))
by-number-ge number k [] h = omega arith
by-number-ge number k (x ∷ l) h =
    let a = sum-le k (λ i. hit (eqb (number x) i) + length (keep (λ y. eqb (number y) i) l)) (λ i. length (keep (λ y. eqb (number y) i) (x ∷ l)))
    (λ i h. le_of_eq (sym (tally (λ y. eqb (number y) i) x l))) in
    let b = sum-add k (λ i. hit (eqb (number x) i)) (λ i. length (keep (λ y. eqb (number y) i) l)) in
    let c = sum-hit-one k (number x) (h x (Memᴰ.head refl)) in
    let d = by-number-ge number k l (λ y i. h y (Memᴰ.tail i)) in
    omega arith

-- a total over the elements is a sum over their places; d stands past the end
sum_first : (k : ℕ) (g : ℕ → ℕ) → sum (suc k) g ≡ g 0 + sum k (λ i. g (suc i))
unfolding sum
sum_first zero g = omega arith
sum_first (suc k) g = let a : sum k g + g k ≡ g 0 + sum k (λ i. g (suc i)) = sum_first k g in omega arith

module _ {A : Type 0} (f : A → ℕ) (d : A) (z : f d ≡ 0) where
  pub total-sum : (l : List A) (k : ℕ) → length l ≤ k → sum k (λ i. f (get_or l i d)) ≡ total f l
  unfolding sum total
  total-sum [] zero h = refl
  total-sum [] (suc k) h = let a = total-sum [] k (omega arith) in omega arith
  total-sum (x ∷ l) zero h = absurd (omega arith)
  total-sum (x ∷ l) (suc k) h = sum_first k (λ i. f (get_or (x ∷ l) i d)) ∙ ap (λ (t : ℕ). f x + t) (total-sum l k (omega arith))

  pub total-zero : (l : List A) → total f l ≡ 0 → (i : ℕ) → f (get_or l i d) ≡ 0
  unfolding total
  total-zero [] h i = z
  total-zero (x ∷ l) h zero = omega arith
  total-zero (x ∷ l) h (suc i) = total-zero l (omega arith) i

  pub total-some : (l : List A) → (total f l ≡ 0 → ⊥) → (i : ℕ) × (i < length l) × (f (get_or l i d) ≡ 0 → ⊥)
  unfolding total
  total-some [] h = absurd (h refl)
  total-some (x ∷ l) h =
      by_test (eqb (f x) 0)
      (λ t. let r = total-some l (λ e. h (let a = eqb-true (f x) 0 t in omega arith)) in (suc r.0, omega (arith, r.1), r.2))
      (λ t. (0, omega arith, eqb-false (f x) 0 t))

  pub total-most : (b : ℕ) (l : List A) → ((i : ℕ) → f (get_or l i d) ≤ b) → total f l ≤ length l * b
  unfolding total
  total-most b [] h = omega arith
  total-most b (x ∷ l) h = let a = total-most b l (λ i. h (suc i)) in let c = h 0 in omega arith
