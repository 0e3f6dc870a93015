-- How long a line of numbers is as text, and how long at most.
use mathlib.Core.Bool.{true}
use mathlib.Core.List.{List, [], ◌∷◌}
use mathlib.Core.Path.{◌≡◌}
use Prim.Native.Nat.{◌*◌, ◌+◌, ◌<◌, ◌^◌, ◌≤◌, ℕ}
use native.Mathlib.Nat.{lt_of_le_of_lt}
use native.Mathlib.Omega.{arith}
use lib.Dec.{leb, lit<}
use lib.ListN.{length, length-append}
use borrow.Author.Tests.{leb-true}
use Rattle.lists.specs.Lists.{all}
use Rattle.lists.proofs.Tests.{and_left, and_right}
use Rattle.protocol.specs.Bounds.{largest_number}
use Rattle.rehearsal.specs.Text.{decimal_of, line_end, line_text, rest_text, spaced}
use Rattle.rehearsal.proofs.Decimals.{digits-below, digits-most}

pub rest-length : (ns : List ℕ) → length (rest_text ns) ≡ length (spaced ns) + 1
unfolding rest_text
rest-length ns = length-append (spaced ns) (line_end ∷ [])

pub line-length : (n : ℕ) (ns : List ℕ) → length (line_text (n ∷ ns)) ≡ length (decimal_of n) + length (rest_text ns)
unfolding line_text
line-length n ns = length-append (decimal_of n) (rest_text ns)

-- ---- at most: ten digits to a number of a line, twenty to the line's own
spaced-most : (ns : List ℕ) → all (λ (n : ℕ). leb n largest_number) ns ≡ true → length (spaced ns) ≤ 11 * length ns
unfolding spaced all
spaced-most [] e = omega arith
spaced-most (n ∷ ns) e =
    let h : n ≤ largest_number = leb-true _ _ (and_left _ _ e) in
    let r = spaced-most ns (and_right (leb n largest_number) _ e) in
    let d = digits-below 9 n (lt_of_le_of_lt h (lit< tt)) in
    let l = length-append (decimal_of n) (spaced ns) in
    omega arith

pub line-most : (n : ℕ) (ns : List ℕ) → n < 2 ^ 64 → all (λ (n : ℕ). leb n largest_number) ns ≡ true → length (line_text (n ∷ ns)) ≤ 21 + 11 * length ns
line-most n ns h e = omega (arith, line-length n ns, rest-length ns, digits-most n h, spaced-most ns e)
