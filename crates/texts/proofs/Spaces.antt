-- Numbers behind spaces: the loops over them, and a whole line.
use mathlib.Core.List.{List, [], ◌++◌, ◌∷◌, append_assoc, append-nil}
use mathlib.Core.Path.{◌∙◌, ◌≡◌, ap, refl, sym}
use Prim.Native.Nat.{◌*◌, ◌+◌, ◌<◌, ◌≤◌, ℕ}
use native.Mathlib.Numerals.{add-one}
use native.Mathlib.Omega.{arith}
use lib.ListN.{drop, drop_of_length-le, get_or, length, length-append, take, take-append-drop}
use lib.Seq.{drop-cons, take_all, take-suc}
use mir.Syntax.{w64}
use mir.Val.{Fits}
use Rattle.rehearsal.specs.Line.{space}
use Rattle.rehearsal.specs.Answers.{max_numbers}
use Rattle.rehearsal.specs.Text.{Adds, Puts, decimal_of, line_end, line_text, most_digits, rest_text, spaced}
use Rattle.rehearsal.proofs.Lengths.{line-length, rest-length}
use Rattle.texts.proofs.Buffers.{adds-length, adds-nothing, adds_on, adds-puts, puts-adds}

spaced-append : (l k : List ℕ) → spaced (l ++ k) ≡ spaced l ++ spaced k
unfolding spaced
spaced-append [] k = refl
spaced-append (n ∷ l) k = rw (spaced-append l k) (sym (append_assoc (space ∷ decimal_of n) (spaced l) (spaced k)))

module _ (ns : List ℕ) (i : ℕ) (h : i < length ns) where
  spaced-from : spaced (drop i ns) ≡ (space ∷ decimal_of (get_or ns i 0)) ++ spaced (drop (i + 1) ns)
  unfolding spaced
  spaced-from = rw (add-one i, drop-cons ns i 0 h)

  spaced-more : spaced (take (i + 1) ns) ≡ spaced (take i ns) ++ space ∷ decimal_of (get_or ns i 0)
  spaced-more = rw (add-one i, take-suc ns i 0 h) (spaced-append (take i ns) (get_or ns i 0 ∷ []) ∙ ap (λ (l : List ℕ). spaced (take i ns) ++ l) single)
    where
      single : spaced (get_or ns i 0 ∷ []) ≡ space ∷ decimal_of (get_or ns i 0)
      single = unfold spaced in append-nil (space ∷ decimal_of (get_or ns i 0))

-- the text of the first i, and of the rest
spaced-split : (ns : List ℕ) (i : ℕ) → length (spaced ns) ≡ length (spaced (take i ns)) + length (spaced (drop i ns))
spaced-split ns i =
    ap (λ (l : List ℕ). length (spaced l)) (sym (take-append-drop i ns)) ∙ ap length (spaced-append (take i ns) (drop i ns)) ∙ length-append (spaced (take i ns)) (spaced (drop i ns))

-- ---- `spaced_size`: the first i are counted
module _ (ns : List ℕ) where
  pub record Spacing (size i : ℕ) : Type 0 where
    pub left : length (spaced ns) ≡ size + length (spaced (drop i ns))
    pub small : size ≤ i * (most_digits + 1)

  pub space-start : Spacing 0 0
  space-start = record { left = omega arith; small = omega arith }

  module _ (size i : ℕ) (r : Spacing size i) where
    pub space-turn : i < length ns → (n k : ℕ) → n ≡ get_or ns i 0 → k ≡ length (decimal_of n) → k ≤ most_digits → Spacing (size + (1 + k)) (i + 1)
    space-turn h n k e f g =
        let t : k ≡ length (decimal_of (get_or ns i 0)) = rw e at f in
        let u = ap length (spaced-from ns i h) in
        let w = length-append (space ∷ decimal_of (get_or ns i 0)) (spaced (drop (i + 1) ns)) in
        record { left = omega (arith, r.left); small = omega (arith, r.small) }

    pub space-fits : i < length ns → length ns ≤ max_numbers → (k : ℕ) → k ≤ most_digits → Fits w64 (size + (1 + k))
    space-fits h m k g = record { fits = omega (arith, r.small) }

    pub space-done : length ns ≤ i → size ≡ length (spaced ns)
    space-done h =
        let u : length (spaced (drop i ns)) ≡ 0 = rw (drop_of_length-le ns h) (unfold spaced in refl) in
        omega (arith, r.left)

    pub space-most : length ns ≤ max_numbers → i ≤ length ns → size ≤ max_numbers * (most_digits + 1)
    space-most m h = omega (arith, r.small)

pub ruleset spacing = (space-start, space-turn, space-fits, space-done, space-most)

-- ---- `put_spaced`: the first i stand in the buffer
module _ (before : List ℕ) (at : ℕ) (ns : List ℕ) where
  pub record Putting (after : List ℕ) (next i : ℕ) : Type 0 where
    pub room : at + length (spaced ns) ≤ length before
    pub added : Adds (spaced (take i ns)) before at after next

  pub put-start : at + length (spaced ns) ≤ length before → Putting before at 0
  put-start h =
      let y : spaced (take 0 ns) ≡ [] = unfold spaced in refl in
      record { room = h; added = rw y (adds-nothing before at) }

  module _ (after : List ℕ) (next i : ℕ) (r : Putting after next i) where
    fits : at + length (spaced (take i ns)) ≤ length before
    fits = omega (arith, r.room, spaced-split ns i)

    pub put_same : length after ≡ length before
    put_same = adds-length (spaced (take i ns)) before at after next fits r.added

    module _ (h : i < length ns) (n : ℕ) (t : n ≡ get_or ns i 0) where
      pub put-room : next + length (space ∷ decimal_of n) ≤ length after
      put-room =
          let u = ap length (spaced-from ns i h) in
          let w = length-append (space ∷ decimal_of (get_or ns i 0)) (spaced (drop (i + 1) ns)) in
          let y : length (decimal_of n) ≡ length (decimal_of (get_or ns i 0)) = rw t in
          omega (arith, r.room, spaced-split ns i, put_same, r.added.place)

      pub put-turn : (a : List ℕ) (p : ℕ) → Adds (space ∷ decimal_of n) after next a p → Putting a p (i + 1)
      put-turn a p s =
          record {
            room = r.room;
            added = rw (spaced-more ns i h, ← t) (adds_on (spaced (take i ns)) before at after next (space ∷ decimal_of n) a p fits r.added s);
          }

    pub put-done : length ns ≤ i → Adds (spaced ns) before at after next
    put-done h = rw (take_all i ns h) at r.added

pub ruleset puttings = (put-start, put_same, put-room, put-turn, put-done)

-- ---- `put_rest`
module _ (ns out : List ℕ) (at : ℕ) (h : at + length (rest_text ns) ≤ length out) where
  pub rest-room : at + length (spaced ns) ≤ length out
  rest-room = omega (arith, rest-length ns)

  module _ (a : List ℕ) (p : ℕ) (r : Adds (spaced ns) out at a p) where
    pub rest_end : p < length a
    rest_end = omega (arith, rest-length ns, r.place, adds-length (spaced ns) out at a p rest-room r)

    pub rest_put : (b : List ℕ) (q : ℕ) → Adds (line_end ∷ []) a p b q → Adds (rest_text ns) out at b q
    unfolding rest_text
    rest_put b q s = adds_on (spaced ns) out at a p (line_end ∷ []) b q rest-room r s

pub ruleset resting = (rest-room, rest_end, rest_put)

-- ---- `line_size` and `put_line`
module _ (n : ℕ) (ns : List ℕ) where
  -- the room that the line takes, as the code counts it
  pub line-size : (k j : ℕ) → k ≡ length (decimal_of n) → j ≡ length (spaced ns) → k + j + 1 ≡ length (line_text (n ∷ ns))
  line-size k j e f = omega (arith, line-length n ns, rest-length ns)

  module _ (out : List ℕ) (at : ℕ) (h : at + length (line_text (n ∷ ns)) ≤ length out) (a : List ℕ) (p : ℕ) (r : Puts (decimal_of n) out at a p) where
    fits-first : at + length (decimal_of n) ≤ length out
    fits-first = omega (arith, line-length n ns)

    first : Adds (decimal_of n) out at a p
    first = puts-adds (decimal_of n) out at a p fits-first r

    pub line-room : p + length (rest_text ns) ≤ length a
    line-room = omega (arith, line-length n ns, first.place, adds-length (decimal_of n) out at a p fits-first first)

    pub line-put : (b : List ℕ) (q : ℕ) → Adds (rest_text ns) a p b q → Puts (line_text (n ∷ ns)) out at b q
    unfolding line_text
    line-put b q s = adds-puts (decimal_of n ++ rest_text ns) out at b q h (adds_on (decimal_of n) out at a p (rest_text ns) b q fits-first first s)

pub ruleset lining = (line-size, line-room, line-put)
