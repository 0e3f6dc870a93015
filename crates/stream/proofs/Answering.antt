-- The answer to a line: there is room for it where there is room for the longest.
use Rattle.std.proofs.Common.{◌≡◌, ℕ, ◌+◌, ◌^◌, ◌<◌, ◌≤◌, true, leb, List, ◌∷◌, length, get_or, arith, length-take, get_or-take, le-leb}
use mir.Val.{Val}
use denote.Laws.{Is}
use denote.Builtin.{u32}
use Rattle.lists.specs.Lists.{all}
use Rattle.lists.proofs.Alls.{past_all}
use Rattle.lists.proofs.Arrays.{array_at, length-of}
use Rattle.protocol.specs.Bounds.{largest_number}
use Rattle.rehearsal.specs.Answers.{max_numbers, numbers_of}
use Rattle.rehearsal.specs.Text.{Adds, Puts, line_text}
use Rattle.rehearsal.specs.Answers.{Numbers}
use Rattle.rehearsal.proofs.Lengths.{line-most}
use Rattle.lists.specs.contracts.Bounded as bounded
use denote.Param.{number}
use Rattle.texts.proofs.Buffers.{puts-adds}
use Rattle.feeding.specs.Feed.{longest_answer}

module _ (x : Numbers) (vs : List Val) (v : Is (bounded.the_row u32 (number max_numbers)) x vs) where
  few : length x.items ≡ max_numbers
  few = search length-of

  small : (i : ℕ) → i < length (numbers_of x) → leb (get_or (numbers_of x) i 0) largest_number ≡ true
  small i h =
      let n = length-take x.count x.items in
      let w = array_at u32 max_numbers x.items _ v.1.1.1.0 i (omega (arith, few)) 0 in
      let e : get_or (numbers_of x) i 0 ≡ get_or x.items i 0 = get_or-take x.count x.items i 0 (omega arith) in
      let b : get_or x.items i 0 < 2 ^ 32 = w.1.1 in
      rw e (le-leb (get_or x.items i 0) largest_number (omega arith))

  all_small : all (λ (n : ℕ). leb n largest_number) (numbers_of x) ≡ true
  all_small = past_all (λ (n : ℕ). leb n largest_number) 0 (numbers_of x) 0 (λ i a h. small i h)

  pub answer-length : (n : ℕ) → n < 2 ^ 64 → length (line_text (n ∷ numbers_of x)) ≤ longest_answer
  answer-length n h = omega (arith, line-most n (numbers_of x) h all_small, length-take x.count x.items, few)

  module _ (n : ℕ) (h : n < 2 ^ 64) (out : List ℕ) (at : ℕ) (room : at + longest_answer ≤ length out) (a : List ℕ) (p : ℕ) (r : Puts (line_text (n ∷ numbers_of x)) out at a p) where
    pub answer-added : Adds (line_text (n ∷ numbers_of x)) out at a p
    answer-added = puts-adds (line_text (n ∷ numbers_of x)) out at a p (omega (arith, answer-length n h)) r

    pub answer-place : p ≤ at + longest_answer
    answer-place = omega (arith, answer-added.place, answer-length n h)

pub ruleset answering = (answer-added, answer-place)
