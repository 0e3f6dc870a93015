-- What a line answers, behind its own number: numbers in an array with a count.
use Rattle.std.specs.Prelude.{List, [], ◌∷◌, ◌+◌, ℕ, length, take}
use Rattle.lists.specs.Lists.{each, pad}
use Rattle.lists.specs.declared.Bounded.{Bounded}

-- the refusal and sixteen queue lengths are the most that a line gives behind its own number
abbrev pub max_numbers : ℕ
max_numbers = 17

abbrev pub Numbers : Type 0
Numbers = Bounded ℕ max_numbers

abbrev pub numbers_of : Numbers → List ℕ
numbers_of x = take x.count x.items

-- the places behind the count are zero
unfoldable pub stored : List ℕ → Numbers
stored ns = record { count = length ns; items = pad max_numbers 0 ns }

-- ---- a square of numbers, row after row
unfoldable pub row : ℕ → (ℕ → ℕ) → List ℕ
row n f = each n (λ k. f k ∷ [])

unfoldable pub rows : ℕ → ℕ → (ℕ → ℕ → ℕ) → List ℕ
rows k n f = each k (λ s. row n (f s))

abbrev pub square_of : ℕ → (ℕ → ℕ → ℕ) → List ℕ
square_of n f = rows n n f
