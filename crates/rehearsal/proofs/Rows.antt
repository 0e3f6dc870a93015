-- The table of commands: the row that a word finds, and that a line that is not understood has one reading.
use mathlib.Core.Bool.{Bool, false, true}
use mathlib.Core.List.{List, Memᴰ, [], ◌∷◌}
use mathlib.Core.Path.{◌≡◌, refl}
use Prim.Native.Nat.{ℕ}
use lib.Dec.{leb}
use lib.ListN.{length}
use Rattle.lists.specs.Lists.{all, keep, pick}
use Rattle.lists.proofs.Keep.{kept}
use Rattle.lists.proofs.Members.{all-get, seen-mem}
use Rattle.lists.proofs.Tests.{by_test, no_true}
use Rattle.names.specs.Names.{same_bytes}
use Rattle.names.specs.Text.{bytes}
use Rattle.rehearsal.specs.Line.{Advance, Command, Crash, Create, Cut, Deliver, Link, NotUnderstood, Open, Recover, Row, Settle, Square, Totals, Unlink, Verb, asked, bears, behind, command_of, first_row, fits, line_bytes, name_among, no_row, not_understood, row_for, space, table, up_to, values}

-- the table and its search opened: a proof that names it computes with them
unfoldable pub tabled : Unit {0}
unfolding all bytes keep row_for same_bytes table
tabled = tt

-- ---- the row that a word finds: one of the table that bears it, or none
pub row-cases : (w : List ℕ) (P : Row → Type 0) → P no_row → ((r : Row) → Memᴰ r table → bears w r ≡ true → P r) → P (row_for w)
unfolding row_for
row-cases w P n f = go (keep (bears w) table) refl
  where
    go : (l : List Row) → keep (bears w) table ≡ l → P (first_row l)
    go [] e = n
    go (r ∷ l) e = f r (seen-mem (bears w) table l r e) (kept (bears w) table r l e)

pub no-row : (ws : List (List ℕ)) → asked no_row ws ≡ not_understood
unfolding asked values name_among not_understood
no-row ws = go (fits [] ws)
  where
    go : (b : Bool) → pick b not_understood not_understood ≡ not_understood
    go true = refl
    go false = refl

-- ---- no row but the one that stands for none is not understood
understood : Verb → Bool
understood Open = true
understood Link = true
understood Create = true
understood Unlink = true
understood Advance = true
understood Deliver = true
understood Cut = true
understood Crash = true
understood Recover = true
understood Settle = true
understood Totals = true
understood Square = true
understood NotUnderstood = false

rows-understood : all (λ (r : Row). understood r.verb) table ≡ true
unfolding tabled understood
rows-understood = refl

row-none : (w : List ℕ) → (row_for w).verb ≡ NotUnderstood → row_for w ≡ no_row
unfolding understood
row-none w =
    row-cases w (λ (r : Row). r.verb ≡ NotUnderstood → r ≡ no_row) (λ v. refl)
    (λ r m b v. no_true (all-get (λ (r : Row). understood r.verb) table rows-understood r m) (rw v))

unread : (w : List ℕ) (ws : List (List ℕ)) → (asked (row_for w) ws).verb ≡ NotUnderstood → asked (row_for w) ws ≡ not_understood
unfolding asked
unread w ws v =
    by_test (fits (row_for w).forms ws)
    (λ t. rw (row-none w (rw t at v)) (no-row ws))
    (λ t. rw t)

pub one-reading : (s : List ℕ) → (command_of s).verb ≡ NotUnderstood → command_of s ≡ not_understood
unfolding command_of
one-reading s = go (leb (length s) line_bytes)
  where
    c : Command
    c = asked (row_for (up_to space s)) (behind space s)

    go : (b : Bool) → (pick b c not_understood).verb ≡ NotUnderstood → pick b c not_understood ≡ not_understood
    go true v = unread (up_to space s) (behind space s) v
    go false v = refl
