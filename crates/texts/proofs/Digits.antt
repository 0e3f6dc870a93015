-- The loops that count the digits of a number, and write them.
use mathlib.Core.List.{List, [], ◌++◌, ◌∷◌, append_assoc, append-nil}
use mathlib.Core.Path.{◌∙◌, ◌≡◌, ap, refl, sym}
use Prim.Native.Nat.{◌%◌, ◌+◌, ◌-◌, ◌/◌, ◌<◌, ◌^◌, ◌≤◌, ℕ}
use native.Mathlib.Omega.{arith}
use lib.Dec.{ltb}
use lib.ListN.{drop, length, length-set, set, take, take-append-drop}
use borrow.Author.Tests.{ltb-false, ltb-true}
use mir.Syntax.{w64}
use mir.Val.{Fits}
use Rattle.lists.proofs.Cuts.{set_before}
use Rattle.lists.proofs.Tests.{by_test}
use Rattle.rehearsal.specs.Line.{base, digit_zero}
use Rattle.rehearsal.specs.Text.{decimal_of, most_digits, written}
use Rattle.rehearsal.proofs.Decimals.{decimal-more, decimal-one, digits-most, length_more}

pub digits-least : (n : ℕ) → 1 ≤ length (decimal_of n)
digits-least n =
    by_test (ltb n base)
    (λ t. rw (decimal-one n (ltb-true _ _ t)) (omega arith))
    (λ t. omega (arith, length_more n (ltb-false _ _ t)))

-- ---- `digit_count`: k counts the digits that are gone, and one of those that are left
module _ (n : ℕ) where
  pub record Sizing (k rest : ℕ) : Type 0 where
    pub left : length (decimal_of n) + 1 ≡ k + length (decimal_of rest)

  pub size-start : Sizing 1 n
  size-start = record { left = omega arith }

  module _ (k rest : ℕ) (r : Sizing k rest) where
    pub size-turn : base ≤ rest → Sizing (k + 1) (rest / base)
    size-turn h = record { left = omega (arith, length_more rest h, r.left) }

    pub size_fits : n < 2 ^ 64 → Fits w64 (k + 1)
    size_fits h = record { fits = omega (arith, r.left, digits-most n h, digits-least rest) }

    pub size_is : rest < base → k ≡ length (decimal_of n)
    size_is h = let e = ap length (decimal-one rest h) in omega (arith, r.left)

    pub size-most : n < 2 ^ 64 → rest < base → k ≤ most_digits
    size-most g h = omega (arith, size_is h, digits-most n g)

pub ruleset sizing = (size-start, size-turn, size_fits, size_is, size-most)

-- ---- `put_digits`: the digits that are gone stand right before the end
module _ (before : List ℕ) (end n : ℕ) where
  pub record Writing (after : List ℕ) (at rest : ℕ) : Type 0 where
    pub room : length (decimal_of rest) ≤ at
    pub within : end ≤ length before
    pub tail : List ℕ
    pub whole : decimal_of n ≡ decimal_of rest ++ tail
    pub place : end ≡ at + length tail
    pub bytes : after ≡ take at before ++ (tail ++ drop end before)
    pub same : length after ≡ length before

  module _ (h : length (decimal_of n) ≤ end) where
    pub write-first : 1 ≤ end
    write-first = omega (arith, digits-least n)

    pub write-start : end ≤ length before → Writing before (end - 1 + 1) n
    write-start g =
        let l = write-first in
        let e : end - 1 + 1 ≡ end = omega arith in
        rw e (record {
          room = h;
          within = g;
          tail = [];
          whole = sym (append-nil (decimal_of n));
          place = omega arith;
          bytes = sym (take-append-drop end before);
          same = refl;
        })

  module _ (after : List ℕ) (at rest : ℕ) (r : Writing after (at + 1) rest) where
    pub write-index : at < length after
    write-index = omega (arith, r.within, r.place, r.same)

    pub write-more : base ≤ rest → 1 ≤ at
    write-more h = omega (arith, r.room, length_more rest h, digits-least (rest / base))

    pub write_same : (d : ℕ) → length (set after at d) ≡ length before
    write_same d = length-set after at d ∙ r.same

    -- one digit more in front
    stored : (d : ℕ) → set after at d ≡ take at before ++ (d ∷ r.tail ++ drop end before)
    stored d =
        let i = write-index in
        rw r.bytes (set_before before (r.tail ++ drop end before) at d (omega (arith, r.same)))

    pub write-turn : base ≤ rest → (d : ℕ) → d ≡ digit_zero + rest % base → Writing (set after at d) (at - 1 + 1) (rest / base)
    write-turn h d e =
        let l = write-more h in
        let p : at - 1 + 1 ≡ at = omega arith in
        rw p (record {
          room = omega (arith, r.room, length_more rest h);
          within = r.within;
          tail = d ∷ r.tail;
          whole = r.whole ∙ rw (decimal-more rest h, ← e, append_assoc);
          place = omega (arith, r.place);
          bytes = stored d;
          same = write_same d;
        })

    pub write_done : rest < base → (d : ℕ) → d ≡ digit_zero + rest → set after at d ≡ written before (end - length (decimal_of n)) (decimal_of n)
    unfolding written
    write_done h d e =
        let w : decimal_of n ≡ d ∷ r.tail = r.whole ∙ rw (decimal-one rest h, ← e) in
        let k = ap length w in
        let p : end - length (decimal_of n) ≡ at = omega (arith, r.place) in
        let q : at + length (d ∷ r.tail) ≡ end = omega (arith, r.place) in
        stored d ∙ rw (p, w, q)

pub ruleset writing = (write-first, write-start, write-index, write-more, write_same, write-turn, write_done)
