-- A turn: the answers to a block lie within the room. And the end of the input.
use Rattle.std.proofs.Common.{◌≡◌, ℕ, ◌+◌, ◌≤◌, Bool, true, false, List, [], ◌∷◌, length, drop, sym, ap, ◌∙◌, arith, length-append}
use Rattle.lists.specs.Lists.{is_some}
use Rattle.rehearsal.specs.Text.{Adds, line_end, written}
use Rattle.sessions.specs.declared.Session.{Session}
use Rattle.texts.proofs.Buffers.{adds-nothing}
use Rattle.feeding.specs.Feed.{midway, said, said_last}
use Rattle.feeding.specs.Sessions.{sessions}

module _ (t before after : List ℕ) (p : ℕ) (r : Adds t before 0 after p) where
  place_at : length after ≡ length t + length (drop (0 + length t) before)
  unfolding written
  place_at = ap length r.bytes ∙ length-append t (drop (0 + length t) before)

  pub place_inside : p ≤ length after
  place_inside = omega (arith, place_at, r.place)

-- ---- `finish`
module _ (l : List ℕ) (n : ℕ) (s : Session) (b : Bool) (e : b ≡ is_some l) where
  pub last_none : b ≡ false → (out : List ℕ) → Adds (said_last sessions (midway l n s)) out 0 out 0
  last_none z out = rw (sym e ∙ z) (adds-nothing out 0)

  pub last_some : b ≡ true → (out a : List ℕ) (p : ℕ) → Adds (said sessions (midway l n s) (line_end ∷ [])) out 0 a p → Adds (said_last sessions (midway l n s)) out 0 a p
  last_some z out a p r = rw (sym e ∙ z) r

pub ruleset finishing = (last_none, last_some, place_inside)
