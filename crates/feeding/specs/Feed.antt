-- How the input goes by, in blocks of any size (document 01, 'The rehearsal program'): what stands between two of its bytes, and
-- the text that answers them.
use Rattle.std.specs.Prelude.{List, [], ◌++◌, ◌∷◌, ◌%◌, ◌*◌, ◌+◌, ◌^◌, ℕ, eqb, take}
use Rattle.lists.specs.Lists.{is_some, pick}
use Rattle.rehearsal.specs.Answers.{max_numbers}
use Rattle.rehearsal.specs.Line.{command_of, line_bytes}
use Rattle.rehearsal.specs.Text.{line_end, line_text}
use Rattle.rehearsal.specs.declared.Command.{Command}

-- what answers commands: the numbers behind the line's own, and what answers the next
pub record Service (S : Type 0) : Type 0 where
  pub numbers : S → Command → List ℕ
  pub after : S → Command → S

-- between two bytes: the line that has begun, how many lines were answered, and what answers the next
pub record Midway (S : Type 0) : Type 0 where
  pub line : List ℕ
  pub lines : ℕ
  pub service : S

abbrev pub midway : {S : Type 0} → List ℕ → ℕ → S → Midway S
midway l n s = record { line = l; lines = n; service = s }

-- "at most 64 bytes": of a line one byte more is kept, and stands for any more
abbrev pub line_room : ℕ
line_room = line_bytes + 1

unfoldable pub begun_with : List ℕ → ℕ → List ℕ
begun_with l b = take line_room (l ++ b ∷ [])

-- a line's number has 64 bits
abbrev pub next_line : ℕ → ℕ
next_line n = (n + 1) % 2 ^ 64

-- twenty digits of a line's number, ten of each number behind it, and a space or the LF behind each
abbrev pub longest_answer : ℕ
longest_answer = 21 + 11 * max_numbers

-- so many bytes are read at once, at most
abbrev pub block_bytes : ℕ
block_bytes = 4096

module _ {S : Type 0} (v : Service S) where
  -- ---- one byte

  -- where a line ends, it is answered
  abbrev pub answer : Midway S → List ℕ
  answer x = line_text (next_line x.lines ∷ v.numbers x.service (command_of x.line))

  abbrev pub answered : Midway S → Midway S
  answered x = midway [] (next_line x.lines) (v.after x.service (command_of x.line))

  abbrev pub begun : Midway S → ℕ → Midway S
  begun x b = midway (begun_with x.line b) x.lines x.service

  abbrev pub fed_byte : Midway S → ℕ → Midway S
  fed_byte x b = pick (eqb b line_end) (answered x) (begun x b)

  abbrev pub said_byte : Midway S → ℕ → List ℕ
  said_byte x b = pick (eqb b line_end) (answer x) []

  -- ---- a block: what it leaves, and the text that answers it

  unfoldable pub fed : Midway S → List ℕ → Midway S
  fed x [] = x
  fed x (b ∷ s) = fed (fed_byte x b) s

  unfoldable pub said : Midway S → List ℕ → List ℕ
  said x [] = []
  said x (b ∷ s) = said_byte x b ++ said (fed_byte x b) s

  -- ---- block after block

  -- "the last may lack it": the end of the input ends a line that has begun
  abbrev pub said_last : Midway S → List ℕ
  said_last x = pick (is_some x.line) (said x (line_end ∷ [])) []

  unfoldable pub said_all : Midway S → List (List ℕ) → List ℕ
  said_all x [] = said_last x
  said_all x (s ∷ ss) = said x s ++ said_all (fed x s) ss

-- nothing was read
abbrev pub start_with : {S : Type 0} → S → Midway S
start_with s = midway [] 0 s

-- the input of which these are the blocks
unfoldable pub joined : List (List ℕ) → List ℕ
joined [] = []
joined (s ∷ ss) = s ++ joined ss
