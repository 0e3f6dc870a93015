-- Reading a line word by word: what the steps of the code answer, in the words of Line.
use Rattle.std.specs.Prelude.{Bool, false, true, List, [], ◌∷◌, ◌+◌, ℕ, suc, Option, Some, None, drop, length}
use Rattle.lists.specs.Lists.{keep, pick}
use Rattle.rehearsal.specs.Line.{Form, Row, a_name, a_number, bears, is_decimal, is_number, space, table, up_to, value_of}
pub use Rattle.lines.specs.declared.Shape.{Shape}

abbrev pub value_if : (List ℕ → Bool) → List ℕ → Option ℕ
value_if test w = pick (test w) (Some (value_of w)) None

abbrev pub digits_in : List ℕ → Option ℕ
digits_in w = value_if is_decimal w

abbrev pub number_in : List ℕ → Option ℕ
number_in w = value_if is_number w

abbrev pub number_from : List ℕ → ℕ → Option (ℕ × ℕ)
number_from w from = pick (is_number w) (Some (value_of w, from + length w)) None

abbrev pub number_at : List ℕ → ℕ → Option (ℕ × ℕ)
number_at s from = number_from (up_to space (drop from s)) from

-- at which place a name stands, if at one
abbrev pub is_name : Form → Bool
is_name a_number = false
is_name a_name = true

abbrev pub further : Option ℕ → Option ℕ
further (Some k) = Some (suc k)
further None = None

unfoldable pub nameplace : List Form → Option ℕ
nameplace [] = None
nameplace (f ∷ fs) = pick (is_name f) (Some 0) (further (nameplace fs))

abbrev pub shape_of : Row → Shape
shape_of r = record { verb = r.verb; words = length r.forms; name = nameplace r.forms }

-- the shape of the first row, if there is one
abbrev pub first_shape : List Row → Option Shape
first_shape [] = None
first_shape (r ∷ rs) = Some (shape_of r)

unfoldable pub row_found : List ℕ → Option Shape
row_found letter = first_shape (keep (bears letter) table)
