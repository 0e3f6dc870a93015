-- What a line asks (document 01, 'The rehearsal program'): its words, the table of commands, and the command that the words make.
use Rattle.std.specs.Prelude.{Bool, ◌&&◌, ◌||◌, false, not, true, List, [], ◌++◌, ◌∷◌, ◌*◌, ◌+◌, ◌-◌, ℕ, eqb, leb, length}
use Prim.Native.String.{String}
use Rattle.lists.specs.Lists.{all, is_none, is_some, keep, one, pad, pick}
use Rattle.names.specs.Names.{name_of, same_bytes, zero_name}
use Rattle.names.specs.declared.Name.{Name}
use Rattle.names.specs.Text.{bytes}
use Rattle.protocol.specs.Bounds.{largest_number}
pub use Rattle.rehearsal.specs.declared.Verb.{Verb}
pub use Rattle.rehearsal.specs.declared.Verb.TheVariants.{Open, Link, Create, Unlink, Advance, Deliver, Cut, Crash, Recover, Settle, Totals, Square, NotUnderstood}
pub use Rattle.rehearsal.specs.declared.Command.{Command}

-- "at most 64 bytes"
abbrev pub line_bytes : ℕ
line_bytes = 64

-- ---- words: "single spaces"

abbrev pub space : ℕ
space = 32

-- the bytes before the first c
unfoldable pub up_to : ℕ → List ℕ → List ℕ
up_to c [] = []
up_to c (b ∷ s) = pick (eqb b c) [] (b ∷ up_to c s)

-- behind each c, the bytes before the next
unfoldable pub behind : ℕ → List ℕ → List (List ℕ)
behind c [] = []
behind c (b ∷ s) = one (eqb b c) (up_to c s) ++ behind c s

-- ---- numbers: "decimals without leading zeros up to 4,294,967,295"

abbrev pub digit_zero : ℕ
digit_zero = 48

abbrev pub digit_nine : ℕ
digit_nine = 57

abbrev pub is_digit : ℕ → Bool
is_digit b = leb digit_zero b && leb b digit_nine

abbrev pub base : ℕ
base = 10

-- the value of digits that stand behind others of the value v
unfoldable pub value_after : ℕ → List ℕ → ℕ
value_after v [] = v
value_after v (b ∷ w) = value_after (v * base + (b - digit_zero)) w

abbrev pub value_of : List ℕ → ℕ
value_of w = value_after 0 w

-- not with a 0, unless that is all
abbrev pub starts_well : List ℕ → Bool
starts_well [] = false
starts_well (b ∷ w) = not (eqb b digit_zero) || is_none w

abbrev pub is_decimal : List ℕ → Bool
is_decimal w = all is_digit w && leb (value_of w) largest_number

unfoldable pub is_number : List ℕ → Bool
is_number w = starts_well w && is_decimal w

-- ---- the table of commands

-- what a word of a command is
pub data Form : Type 0 where
  a_number a_name : Form

pub record Row : Type 0 where
  pub letter : List ℕ
  pub verb : Verb
  pub forms : List Form

abbrev row : String → Verb → List Form → Row
row letter verb forms = record { letter = bytes letter; verb = verb; forms = forms }

abbrev number : Form
number = a_number

abbrev partition : Form
partition = a_number

abbrev directory : Form
directory = a_number

abbrev object : Form
object = a_number

abbrev name : Form
name = a_name

unfoldable pub table : List Row
table =
    row "P" Open (number ∷ [])
    ∷ row "L" Link (partition ∷ directory ∷ name ∷ partition ∷ object ∷ [])
    ∷ row "C" Create (partition ∷ directory ∷ name ∷ partition ∷ object ∷ [])
    ∷ row "U" Unlink (partition ∷ directory ∷ name ∷ [])
    ∷ row "A" Advance (partition ∷ number ∷ [])
    ∷ row "D" Deliver (partition ∷ partition ∷ [])
    ∷ row "B" Cut (partition ∷ partition ∷ [])
    ∷ row "K" Crash (partition ∷ [])
    ∷ row "R" Recover (partition ∷ [])
    ∷ row "Z" Settle (number ∷ [])
    ∷ row "S" Totals []
    ∷ row "Q" Square []
    ∷ []

abbrev pub no_row : Row
no_row = row "" NotUnderstood []

abbrev pub first_row : List Row → Row
first_row [] = no_row
first_row (r ∷ rs) = r

abbrev pub bears : List ℕ → Row → Bool
bears letter r = same_bytes r.letter letter

unfoldable pub row_for : List ℕ → Row
row_for letter = first_row (keep (bears letter) table)

-- ---- the command that words make

-- so many words stand behind a letter, at most
abbrev pub max_words : ℕ
max_words = 5

abbrev pub is_of : Form → List ℕ → Bool
is_of a_number w = is_number w
is_of a_name w = is_some w

-- exactly the row's words, each of its form
unfoldable pub fits : List Form → List (List ℕ) → Bool
fits [] [] = true
fits [] (w ∷ ws) = false
fits (f ∷ fs) [] = false
fits (f ∷ fs) (w ∷ ws) = is_of f w && fits fs ws

-- the number at the place of a word, 0 at that of a name
abbrev pub value_in : Form → List ℕ → ℕ
value_in a_number w = value_of w
value_in a_name w = 0

unfoldable pub values : List Form → List (List ℕ) → List ℕ
values [] ws = []
values (f ∷ fs) [] = []
values (f ∷ fs) (w ∷ ws) = value_in f w ∷ values fs ws

abbrev pub name_in : Name → Form → List ℕ → Name
name_in s a_number w = s
name_in s a_name w = name_of w

-- the name among the words; s, where there is none
unfoldable pub name_among : Name → List Form → List (List ℕ) → Name
name_among s [] ws = s
name_among s (f ∷ fs) [] = s
name_among s (f ∷ fs) (w ∷ ws) = name_among (name_in s f w) fs ws

abbrev pub command : Verb → Name → List ℕ → Command
command v s ns = record { verb = v; name = s; numbers = pad max_words 0 ns }

-- one reading alone stands for a line that is not understood
unfoldable pub not_understood : Command
not_understood = command NotUnderstood zero_name []

unfoldable pub asked : Row → List (List ℕ) → Command
asked r ws = pick (fits r.forms ws) (command r.verb (name_among zero_name r.forms ws) (values r.forms ws)) not_understood

-- a line's bytes, the LF that ends it not among them
unfoldable pub command_of : List ℕ → Command
command_of s = pick (leb (length s) line_bytes) (asked (row_for (up_to space s)) (behind space s)) not_understood
