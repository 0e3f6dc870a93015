-- The digits of a number, and how many there are.
use mathlib.Core.Bool.{false, true}
use mathlib.Core.List.{List, [], ◌++◌, ◌∷◌}
use mathlib.Core.Path.{◌∙◌, ◌≡◌, ap, refl}
use Prim.Native.Nat.{◌%◌, ◌*◌, ◌+◌, ◌/◌, ◌<◌, ◌^◌, ◌≤◌, suc, zero, ℕ}
use native.Mathlib.Nat.{lt_of_lt_of_le, pow-suc}
use native.Mathlib.Omega.{arith}
use lib.Dec.{lit≤, ltb}
use lib.ListN.{length, length-append}
use borrow.Author.Tests.{le-ltb, lt-ltb, ltb-false, ltb-true}
use Rattle.lists.proofs.Tests.{by_test}
use Rattle.rehearsal.specs.Line.{base, digit_zero}
use Rattle.rehearsal.specs.Text.{decimal_of, digits_within, most_digits}

-- any count that is large enough gives the same digits
within-any : (k j n : ℕ) → n < k → n < j → digits_within k n ≡ digits_within j n
unfolding digits_within
within-any zero j n h g = absurd (omega arith)
within-any (suc k) zero n h g = absurd (omega arith)
within-any (suc k) (suc j) n h g =
    by_test (ltb n base)
    (λ t. rw (t, digits_within) refl)
    (λ t.
    let l : base ≤ n = ltb-false _ _ t in
    let e = within-any k j (n / base) (omega arith) (omega arith) in
    rw (t, digits_within) (ap (λ (w : List ℕ). w ++ (digit_zero + n % base) ∷ []) e))

pub decimal-one : (n : ℕ) → n < base → decimal_of n ≡ (digit_zero + n) ∷ []
unfolding decimal_of digits_within
decimal-one n h = let t : ltb n base ≡ true = lt-ltb n base (omega arith) in rw (t, digits_within) refl

pub decimal-more : (n : ℕ) → base ≤ n → decimal_of n ≡ decimal_of (n / base) ++ (digit_zero + n % base) ∷ []
unfolding decimal_of digits_within
decimal-more n h =
    let t : ltb n base ≡ false = le-ltb n base h in
    rw (t, digits_within) (ap (λ (w : List ℕ). w ++ (digit_zero + n % base) ∷ []) (within-any n (suc (n / base)) (n / base) (omega arith) (omega arith)))

pub length_more : (n : ℕ) → base ≤ n → length (decimal_of n) ≡ length (decimal_of (n / base)) + 1
length_more n h = ap length (decimal-more n h) ∙ length-append (decimal_of (n / base)) ((digit_zero + n % base) ∷ [])

-- a number below the (k + 1)-th power of ten has at most k + 1 digits
pub digits-below : (k n : ℕ) → n < base ^ suc k → length (decimal_of n) ≤ suc k
digits-below zero n h = rw (decimal-one n (omega arith)) (omega arith)
digits-below (suc k) n h =
    by_test (ltb n base)
    (λ t. rw (decimal-one n (ltb-true _ _ t)) (omega arith))
    (λ t.
    let l : n < base ^ suc k * base = rw pow-suc at h in
    let m : base ≤ n = ltb-false _ _ t in
    let r = digits-below k (n / base) (omega arith) in
    omega (arith, length_more n m))

pub digits-most : (n : ℕ) → n < 2 ^ 64 → length (decimal_of n) ≤ most_digits
digits-most n h = let l : 2 ^ 64 ≤ base ^ most_digits = lit≤ tt in digits-below 19 n (lt_of_lt_of_le h l)
