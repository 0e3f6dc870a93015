-- What is written is read back: a number's text is a decimal of the form that a line's words have, and of that value.
use mathlib.Core.Bool.{Bool, false, not, true}
use mathlib.Core.List.{List, [], ◌++◌, ◌∷◌}
use mathlib.Core.Path.{◌∙◌, ◌≡◌, refl}
use Prim.Native.Nat.{◌%◌, ◌*◌, ◌+◌, ◌-◌, ◌/◌, ◌<◌, ◌≤◌, suc, zero, ℕ}
use native.Mathlib.Omega.{arith}
use lib.Dec.{eqb, ltb}
use borrow.Author.Tests.{le-leb, ltb-false, ltb-true, ne_eqb}
use Rattle.lists.specs.Lists.{all}
use Rattle.lists.proofs.Members.{all_append}
use Rattle.lists.proofs.Tests.{both_true, by_test, no_true}
use Rattle.protocol.specs.Bounds.{largest_number}
use Rattle.rehearsal.specs.Line.{base, digit_nine, digit_zero, is_digit, is_number, starts_well, value_after, value_of}
use Rattle.rehearsal.specs.Text.{decimal_of}
use Rattle.rehearsal.proofs.Decimals.{decimal-more, decimal-one}

-- a property of every number's text, from that of a digit and of one digit more
module _ (P : ℕ → List ℕ → Type 0)
    (one : (n : ℕ) → n < base → P n ((digit_zero + n) ∷ []))
    (more : (n : ℕ) → base ≤ n → P (n / base) (decimal_of (n / base)) → P n (decimal_of (n / base) ++ (digit_zero + n % base) ∷ [])) where
  up_to : (k n : ℕ) → n < k → P n (decimal_of n)
  up_to zero n h = absurd (omega arith)
  up_to (suc k) n h =
      by_test (ltb n base)
      (λ t. let l : n < base = ltb-true _ _ t in rw (decimal-one n l) (one n l))
      (λ t. let l : base ≤ n = ltb-false _ _ t in rw (decimal-more n l) (more n l (up_to k (n / base) (omega arith))))

  every-text : (n : ℕ) → P n (decimal_of n)
  every-text n = up_to (suc n) n (omega arith)

value-last : (v : ℕ) (w : List ℕ) (d : ℕ) → value_after v (w ++ d ∷ []) ≡ value_after v w * base + (d - digit_zero)
unfolding value_after
value-last v [] d = refl
value-last v (b ∷ w) d = value-last (v * base + (b - digit_zero)) w d

pub value-back : (n : ℕ) → value_of (decimal_of n) ≡ n
value-back = every-text (λ n w. value_of w ≡ n) one more
  where
    one : (n : ℕ) → n < base → value_of ((digit_zero + n) ∷ []) ≡ n
    one n h = unfold value_after in omega arith

    more : (n : ℕ) → base ≤ n → value_of (decimal_of (n / base)) ≡ n / base → value_of (decimal_of (n / base) ++ (digit_zero + n % base) ∷ []) ≡ n
    more n h e = value-last 0 (decimal_of (n / base)) (digit_zero + n % base) ∙ rw e (omega arith)

digit-here : (n : ℕ) → n < base → is_digit (digit_zero + n) ≡ true
digit-here n h = both_true (le-leb digit_zero (digit_zero + n) (omega arith)) (le-leb (digit_zero + n) digit_nine (omega arith))

digits-back : (n : ℕ) → all is_digit (decimal_of n) ≡ true
digits-back = every-text (λ n w. all is_digit w ≡ true) one more
  where
    one : (n : ℕ) → n < base → all is_digit ((digit_zero + n) ∷ []) ≡ true
    one n h = unfold all in both_true (digit-here n h) refl

    more : (n : ℕ) → base ≤ n → all is_digit (decimal_of (n / base)) ≡ true → all is_digit (decimal_of (n / base) ++ (digit_zero + n % base) ∷ []) ≡ true
    more n h e = all_append is_digit (decimal_of (n / base)) ((digit_zero + n % base) ∷ []) e (unfold all in both_true (digit-here (n % base) (omega arith)) refl)

-- a first digit that is not 0
leads : List ℕ → Bool
leads [] = false
leads (b ∷ w) = not (eqb b digit_zero)

leads-on : (w u : List ℕ) → leads w ≡ true → leads (w ++ u) ≡ true
unfolding leads
leads-on [] u e = no_true e refl
leads-on (b ∷ w) u e = e

starts-so : (w : List ℕ) → leads w ≡ true → starts_well w ≡ true
unfolding leads
starts-so [] e = no_true e refl
starts-so (b ∷ w) e = rw e

leads-back : (n : ℕ) → 1 ≤ n → leads (decimal_of n) ≡ true
unfolding leads
leads-back = every-text (λ n w. 1 ≤ n → leads w ≡ true) one more
  where
    one : (n : ℕ) → n < base → 1 ≤ n → not (eqb (digit_zero + n) digit_zero) ≡ true
    one n h g = let e : eqb (digit_zero + n) digit_zero ≡ false = ne_eqb (digit_zero + n) digit_zero (λ (q : digit_zero + n ≡ digit_zero). omega arith) in rw e

    more : (n : ℕ) → base ≤ n → (1 ≤ n / base → leads (decimal_of (n / base)) ≡ true) → 1 ≤ n → leads (decimal_of (n / base) ++ (digit_zero + n % base) ∷ []) ≡ true
    more n h e g = leads-on (decimal_of (n / base)) ((digit_zero + n % base) ∷ []) (e (omega arith))

starts-back : (n : ℕ) → starts_well (decimal_of n) ≡ true
starts-back zero = rw (decimal-one 0 (omega arith))
starts-back (suc n) = starts-so (decimal_of (suc n)) (leads-back (suc n) (omega arith))

pub number-back : (n : ℕ) → n ≤ largest_number → is_number (decimal_of n) ≡ true
unfolding is_number
number-back n h = both_true (starts-back n) (both_true (digits-back n) (rw (value-back n) (le-leb _ _ h)))
