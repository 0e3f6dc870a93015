-- Bytes laid over others.
use Rattle.std.specs.Prelude.{List, ◌++◌, ℕ, ◌+◌, length, take, drop}

-- l with xs in place of what stood from `at` on: nothing else is touched
unfoldable pub over : List ℕ → ℕ → List ℕ → List ℕ
over l at xs = take at l ++ xs ++ drop (at + length xs) l
