-- A line that has begun: one byte more.
use Rattle.std.proofs.Common.{◌≡◌, ℕ, ◌+◌, ◌<◌, ◌≤◌, List, [], ◌∷◌, ◌++◌, length, take, set, sym, ◌∙◌, add-one, arith, length-append, length-take-le, take_all, take-suc-set}
use lib.Seq.{take-append-le}
use mir.Val.{Val}
use denote.Builtin.{u8}
use denote.Laws.{Is}
use denote.Param.{number}
use Rattle.lists.specs.contracts.Bounded as bounded
use Rattle.lists.proofs.Arrays.{length-of}
use Rattle.feeding.specs.Feed.{begun_with, line_room}
use Rattle.stream.specs.Keeping.{Line, line_of}

module _ (l : Line) (vs : List Val) (v : Is (bounded.the_row u8 (number line_room)) l vs) where
  pub items-length : length l.items ≡ line_room
  items-length = search length-of

  -- past the room for it a line stays as it is
  pub whole-line : line_room ≤ l.count → line_of l ≡ l.items
  whole-line h = take_all l.count l.items (omega (arith, items-length))

  -- ---- `with_byte`
  pub line-over : (b : ℕ) → line_room ≤ l.count → line_of l ≡ begun_with (line_of l) b
  unfolding begun_with
  line-over b h =
      let e = whole-line h in
      let t : take line_room (l.items ++ b ∷ []) ≡ l.items = take-append-le line_room l.items (b ∷ []) (omega (arith, items-length)) ∙ take_all line_room l.items (omega (arith, items-length)) in
      rw e (sym t)

  pub line-more : (b : ℕ) → l.count < line_room → take (l.count + 1) (set l.items l.count b) ≡ begun_with (line_of l) b
  unfolding begun_with
  line-more b h =
      let n : length (line_of l ++ b ∷ []) ≡ length (line_of l) + 1 = length-append (line_of l) (b ∷ []) in
      let k : length (line_of l) ≡ l.count = length-take-le l.count l.items (omega (arith, items-length)) in
      rw (add-one l.count) (take-suc-set l.items l.count b (omega (arith, items-length))) ∙ sym (take_all line_room (line_of l ++ b ∷ []) (omega arith))

pub ruleset gathering = (line-over, line-more)
