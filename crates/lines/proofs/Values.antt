-- Reading a number: the loop over its digits, and what comes before it.
use mathlib.Core.Bool.{◌&&◌, and-false, false, true}
use mathlib.Core.List.{List, [], ◌∷◌}
use mathlib.Core.Path.{◌∙◌, ◌≡◌, refl, sym}
use Prim.Native.Nat.{◌*◌, ◌+◌, ◌-◌, ◌<◌, ◌^◌, ◌≤◌, suc, zero, ℕ}
use native.Mathlib.Nat.{pow-suc}
use native.Mathlib.Numerals.{add-one}
use native.Mathlib.Omega.{arith}
use lib.Dec.{eqb, leb}
use lib.ListN.{drop, drop_of_length-le, get_or, length, length-take, take}
use lib.Seq.{drop-cons, take_all}
use borrow.Author.Tests.{eqb-false, le-leb, leb-false, leb-true, lt-leb}
use Rattle.std.proofs.lemmas.List.{drop-take}
use Rattle.std.specs.Prelude.{Option, Some, None}
use Rattle.lists.specs.Lists.{all, pick}
use Rattle.lists.proofs.Tests.{and_left, by_test}
use Rattle.protocol.specs.Bounds.{largest_number}
use Rattle.rehearsal.specs.Line.{base, digit_zero, is_digit, is_number, space, value_after, value_of}
use Rattle.lines.specs.Places.{digits_in, number_at, number_from}
use Rattle.lines.proofs.Words.{word-near}

-- digits make a value no smaller
grows : (v : ℕ) (w : List ℕ) → v ≤ value_after v w
unfolding value_after
grows v [] = omega arith
grows v (b ∷ w) = let h = grows (v * base + (b - digit_zero)) w in omega arith

-- the value of digits w behind others of the value v
unfoldable pub digits_on : ℕ → List ℕ → Option ℕ
digits_on v w = pick (all is_digit w && leb (value_after v w) largest_number) (Some (value_after v w)) None

module _ (w : List ℕ) where
  -- what was read makes v, and is no larger than it may be
  pub record Valuing (v i : ℕ) : Type 0 where
    pub small : v ≤ largest_number
    pub left : digits_in w ≡ digits_on v (drop i w)

  pub value-start : Valuing 0 0
  unfolding digits_on
  value-start = record { small = omega arith; left = refl }

  module _ (v i : ℕ) (r : Valuing v i) where
    pub value-done : length w ≤ i → Some v ≡ digits_in w
    unfolding digits_on all value_after
    value-done h = sym (r.left ∙ rw (drop_of_length-le w h, le-leb _ _ r.small))

    module _ (h : i < length w) where
      here : drop i w ≡ get_or w i 0 ∷ drop (i + 1) w
      here = rw (add-one i, drop-cons w i 0 h)

      pub value-none : is_digit (get_or w i 0) ≡ false → None ≡ digits_in w
      unfolding digits_on all
      value-none z = sym (r.left ∙ rw (here, z))

      module _ (z : is_digit (get_or w i 0) ≡ true) where
        abbrev on : ℕ
        on = v * base + (get_or w i 0 - digit_zero)

        pub value-large : largest_number < on → None ≡ digits_in w
        unfolding digits_on all value_after
        value-large g =
            let k = grows on (drop (i + 1) w) in
            let f : leb (value_after on (drop (i + 1) w)) largest_number ≡ false = lt-leb _ _ (omega arith) in
            sym (r.left ∙ rw (here, z, f, and-false))

        pub value-more : on ≤ largest_number → Valuing on (i + 1)
        unfolding digits_on all value_after
        value-more g = record { small = g; left = r.left ∙ rw (here, z) }

        -- in the words of the code: m is ten times the value, x the digit
        module _ (m x : ℕ) (e : m ≡ v * base) (f : x ≡ get_or w i 0 - digit_zero) where
          pub value-over : (m + x < 2 ^ 32 → ⊥) → None ≡ digits_in w
          value-over g = value-large (omega arith)

          pub value-next : (y : ℕ) → m + x < 2 ^ 32 → y ≡ m + x → Valuing y (i + 1)
          value-next y g h = let q : v * base + (get_or w i 0 - digit_zero) ≡ y = omega arith in rw q at (value-more (omega arith))

pub ruleset valuing = (value-start, value-done, value-none, value-large, value-more)

-- ---- a word of more digits than the largest number has

abbrev number_digits : ℕ
number_digits = 10

-- each digit makes the value ten times as large, at least
tenfold : (n v : ℕ) (w : List ℕ) → n ≤ length w → v * base ^ n ≤ value_after v w
unfolding value_after
tenfold zero v w h = let g = grows v w in omega arith
tenfold (suc n) v [] h = absurd (omega arith)
tenfold (suc n) v (b ∷ w) h =
    let g = tenfold n (v * base + (b - digit_zero)) w (omega arith) in
    rw (pow-suc base n) (omega arith)

number_large : (b : ℕ) (w : List ℕ) → is_digit b ≡ true → eqb b digit_zero ≡ false → number_digits ≤ length w → leb (value_of (b ∷ w)) largest_number ≡ false
unfolding value_after
number_large b w u t h =
    let g : (0 * base + (b - digit_zero)) * base ^ number_digits ≤ value_of (b ∷ w) = tenfold number_digits _ w h in
    lt-leb _ _ (omega (arith, eqb-false b digit_zero t, leb-true digit_zero b (and_left _ _ u)))

number_long : (w : List ℕ) → number_digits < length w → is_number w ≡ false
unfolding is_number all
number_long [] h = refl
number_long (b ∷ []) h = absurd (omega arith)
number_long (b ∷ d ∷ w) h =
    by_test (eqb b digit_zero)
    (λ t. rw t)
    (λ t. by_test (is_digit b) (λ u. rw (t, u, number_large b (d ∷ w) u t (omega arith), and-false)) (λ u. rw (t, u)))

number_cut : (n from : ℕ) (w : List ℕ) → number_digits < n → number_from (take n w) from ≡ number_from w from
number_cut n from w h =
    by_test (leb (length w) n)
    (λ t. rw (take_all n w (leb-true _ _ t)))
    (λ t. let g : n < length w = leb-false _ _ t in rw (number_long w (omega arith), number_long (take n w) (omega (arith, length-take n w))))

-- ---- `number_at`: the line, cut so far behind the place
pub number-near : (s : List ℕ) (from m : ℕ) → (m < length s → m ≡ from + suc number_digits) → number_at (take m s) from ≡ number_at s from
number-near s from m e =
    by_test (leb (length s) m)
    (λ t. rw (take_all m s (leb-true _ _ t)))
    (λ t. rw (e (leb-false _ _ t), drop-take from (suc number_digits) s, word-near space (suc number_digits) (drop from s)) (number_cut (suc number_digits) from _ (omega arith)))
