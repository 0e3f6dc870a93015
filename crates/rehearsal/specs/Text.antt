-- A line of the output as text (document 01, 'The rehearsal program'), and text put into a lent buffer.
use Rattle.std.specs.Prelude.{Bool, false, true, List, [], ◌++◌, ◌∷◌, ◌≡◌, ◌%◌, ◌+◌, ◌/◌, suc, zero, ℕ, leb, ltb, drop, length, take}
use Rattle.lists.specs.Lists.{pick}
use Rattle.rehearsal.specs.Line.{base, digit_zero, space}

abbrev pub line_end : ℕ
line_end = 10

-- ---- text

-- the digits of n, of which there are at most k
unfoldable pub digits_within : ℕ → ℕ → List ℕ
digits_within zero n = []
digits_within (suc k) n = elim (ltb n base) [ true ↦ (digit_zero + n) ∷ [] | false ↦ digits_within k (n / base) ++ (digit_zero + n % base) ∷ [] ]

-- without leading zeros; a number has no more digits than its successor says
unfoldable pub decimal_of : ℕ → List ℕ
decimal_of n = digits_within (suc n) n

-- numbers, each behind a space
unfoldable pub spaced : List ℕ → List ℕ
spaced [] = []
spaced (n ∷ ns) = space ∷ decimal_of n ++ spaced ns

-- what follows the first number of a line
unfoldable pub rest_text : List ℕ → List ℕ
rest_text ns = spaced ns ++ line_end ∷ []

-- numbers with one space between two, and the end of the line
unfoldable pub line_text : List ℕ → List ℕ
line_text [] = line_end ∷ []
line_text (n ∷ ns) = decimal_of n ++ rest_text ns

-- a number of the largest width, 18,446,744,073,709,551,615, has so many digits
abbrev pub most_digits : ℕ
most_digits = 20

-- ---- a lent buffer

-- text from a place on; the bytes before it and behind it stay
unfoldable pub written : List ℕ → ℕ → List ℕ → List ℕ
written out at text = take at out ++ (text ++ drop (at + length text) out)

abbrev pub has_room : List ℕ → ℕ → List ℕ → Bool
has_room out at text = leb (at + length text) (length out)

-- every byte of the buffer, and the place behind the text; where the room is too short, nothing is written and the place stays
pub record Puts (text before : List ℕ) (at : ℕ) (after : List ℕ) (next : ℕ) : Type 0 where
  pub bytes : after ≡ pick (has_room before at text) (written before at text) before
  pub place : next ≡ pick (has_room before at text) (at + length text) at

-- the same where there is room
pub record Adds (text before : List ℕ) (at : ℕ) (after : List ℕ) (next : ℕ) : Type 0 where
  pub bytes : after ≡ written before at text
  pub place : next ≡ at + length text
