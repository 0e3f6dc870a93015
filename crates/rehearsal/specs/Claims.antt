-- What is proved of these definitions: the statements that the contract of `claims` gathers.
use Rattle.std.specs.Prelude.{true, List, ◌∷◌, ◌≡◌, ◌*◌, ◌+◌, ◌<◌, ◌^◌, ◌≤◌, ℕ, leb, length}
use Rattle.lists.specs.Lists.{all}
use Rattle.protocol.specs.Bounds.{largest_number}
use Rattle.rehearsal.specs.Line.{NotUnderstood, command_of, is_number, not_understood, value_of}
use Rattle.rehearsal.specs.Rehearsal.{rehearsal}
use Rattle.rehearsal.specs.Text.{Puts, decimal_of, line_text}
use Rattle.rehearsal.specs.Worked.{answers, read_answers, read_schedule, schedule}

-- document 01's worked rehearsal, byte for byte; and one that shows how its open points are read
pub record Worked : Type 0 where
  pub document : rehearsal schedule ≡ answers
  pub readings : rehearsal read_schedule ≡ read_answers

-- what is written is read back
pub record ReadBack : Type 0 where
  pub number : (n : ℕ) → n ≤ largest_number → is_number (decimal_of n) ≡ true
  pub value : (n : ℕ) → value_of (decimal_of n) ≡ n

-- a line of k numbers behind its own has at most 21 + 11 k bytes, its LF counted
pub record ShortText : Type 0 where
  pub bound : (n : ℕ) (ns : List ℕ) → n < 2 ^ 64 → all (λ (n : ℕ). leb n largest_number) ns ≡ true → length (line_text (n ∷ ns)) ≤ 21 + 11 * length ns

-- a line that is not understood has one reading: no name, no numbers
pub record OneReading : Type 0 where
  pub alone : (s : List ℕ) → (command_of s).verb ≡ NotUnderstood → command_of s ≡ not_understood

-- no two outcomes satisfy what a text put into a buffer is said to be
pub record OneText : Type 0 where
  pub bytes : (t before : List ℕ) (at : ℕ) (a b : List ℕ) (p q : ℕ) → Puts t before at a p → Puts t before at b q → a ≡ b
  pub place : (t before : List ℕ) (at : ℕ) (a b : List ℕ) (p q : ℕ) → Puts t before at a p → Puts t before at b q → p ≡ q
