-- Reachable tables: all that bears a number says the same, and by the number's way an entry, or a back-pointer, stands or not.
use mathlib.Core.Bool.{Bool, ◌&&◌, false, not, true}
use mathlib.Core.List.{List, [], ◌∷◌}
use mathlib.Core.Logic.{◌⊎◌, inl, inr}
use mathlib.Core.Path.{◌≡◌, refl}
use Prim.Native.Nat.{ℕ}
use lib.Dec.{eqb}
use borrow.Author.Tests.{eqb-true}
use Rattle.lists.specs.Lists.{one}
use Rattle.protocol.specs.Elements.{Backpointer, Body, Cleared, Create, Held, Link, No, NoBecause, Ready, Record, Refused, Request, Sent, Stage, Unlink, Yes}
use Rattle.protocol.specs.Tables.{Model, entry_of}
use Rattle.lists.proofs.Tests.{and_left, and_right, no_true}
use Rattle.protocol.proofs.Content.{Content, Fine, backpointer_at, else-view, entry_at, fine-else, letters}
use Rattle.protocol.proofs.Numbers.{Else, View, here}
use Rattle.protocol.proofs.Whole.{Way, asking, idle, mail_of, recs_of, rests, told}

-- by way, entry and back-pointer
abbrev pub rule_add : Stage → Bool → Bool → Bool
rule_add Ready true st = st
rule_add Ready false st = true
rule_add Held e st = st
rule_add (Refused x) true st = false
rule_add (Refused x) false st = not st
rule_add Sent e st = false
rule_add Cleared e st = false

abbrev pub rule_unlink : Stage → Bool → Bool → Bool
rule_unlink Ready true st = st
rule_unlink Ready false st = true
rule_unlink Cleared true st = false
rule_unlink Cleared false st = not st
rule_unlink Sent e st = false
rule_unlink Held e st = false
rule_unlink (Refused x) e st = false

abbrev pub unless : Bool → Bool → Bool
unless true b = false
unless false b = b

abbrev pub rule_answer : Body → Bool → Bool → Bool
rule_answer Yes e st = unless e st
rule_answer (NoBecause x) e st = unless e (not st)
rule_answer No e st = false
rule_answer Request e st = false

abbrev pub rule_cleared : Body → Bool → Bool → Bool
rule_cleared Yes e st = unless e (not st)
rule_cleared No e st = unless e (not st)
rule_cleared (NoBecause x) e st = false
rule_cleared Request e st = false

abbrev pub rule : Way → Bool → Bool → Bool
rule idle true st = st
rule idle false st = not st
rule (rests Link s) e st = rule_add s e st
rule (rests Create s) e st = rule_add s e st
rule (rests Unlink s) e st = rule_unlink s e st
rule (asking k) e st = not e
rule (told Link t) e st = rule_answer t e st
rule (told Create t) e st = rule_answer t e st
rule (told Unlink t) e st = rule_cleared t e st

abbrev pub backs_of : Content → ℕ → ℕ → Bool → ℕ → List Backpointer
backs_of c n p st q = one (st && eqb q c.partition) (backpointer_at c n p)

abbrev pub Has : Model → ℕ → ℕ → Content → Way → Bool → Bool → Type 0
Has m p n c w e st = View m p n (one e (entry_at c n)) (recs_of c n w) (backs_of c n p st) (letters c n p (mail_of w))

pub record Tie (m : Model) (p n : ℕ) : Type 0 where
  pub what : Content
  pub way : Way
  pub entry : Bool
  pub back : Bool
  pub fine : Fine m what
  pub rule : rule way entry back ≡ true
  pub has : Has m p n what way entry back

abbrev pub Ties : Model → Type 0
Ties m = (p n : ℕ) → Tie m p n

-- only p's number n changed
pub record Tied (m m' : Model) (p n : ℕ) : Type 0 where
  pub others : Else m m' p n
  pub to : Tie m' p n

tie-at : {m m' : Model} {p n : ℕ} → Else m m' p n → Tie m' p n → (p' n' : ℕ) → Tie m p' n' → (b : Bool) → here p n p' n' ≡ b → Tie m' p' n'
tie-at {p} {n} o x p' n' y true e = rw (eqb-true n' n (and_right (eqb p' p) _ e), eqb-true p' p (and_left _ _ e)) x
tie-at o x p' n' y false e =
    record {
      what = y.what;
      way = y.way;
      entry = y.entry;
      back = y.back;
      fine = fine-else o.count y.fine;
      rule = y.rule;
      has =
          else-view o e y.has;
    }

-- one number changes
pub change-ties : {m m' : Model} {p n : ℕ} → Ties m → Tied m m' p n → Ties m'
change-ties {p} {n} i x p' n' = tie-at x.others x.to p' n' (i p' n') (here p n p' n') refl

-- an entry has its back-pointer
pub entry-back : (w : Way) (st : Bool) → rule w true st ≡ true → st ≡ true
entry-back idle st r = r
entry-back (rests Link Ready) st r = r
entry-back (rests Link Sent) st r = no_true r refl
entry-back (rests Link Held) st r = r
entry-back (rests Link (Refused x)) st r = no_true r refl
entry-back (rests Link Cleared) st r = no_true r refl
entry-back (rests Create Ready) st r = r
entry-back (rests Create Sent) st r = no_true r refl
entry-back (rests Create Held) st r = r
entry-back (rests Create (Refused x)) st r = no_true r refl
entry-back (rests Create Cleared) st r = no_true r refl
entry-back (rests Unlink Ready) st r = r
entry-back (rests Unlink Sent) st r = no_true r refl
entry-back (rests Unlink Held) st r = no_true r refl
entry-back (rests Unlink (Refused x)) st r = no_true r refl
entry-back (rests Unlink Cleared) st r = no_true r refl
entry-back (asking k) st r = no_true r refl
entry-back (told Link Request) st r = no_true r refl
entry-back (told Link Yes) st r = no_true r refl
entry-back (told Link No) st r = no_true r refl
entry-back (told Link (NoBecause x)) st r = no_true r refl
entry-back (told Create Request) st r = no_true r refl
entry-back (told Create Yes) st r = no_true r refl
entry-back (told Create No) st r = no_true r refl
entry-back (told Create (NoBecause x)) st r = no_true r refl
entry-back (told Unlink Request) st r = no_true r refl
entry-back (told Unlink Yes) st r = no_true r refl
entry-back (told Unlink No) st r = no_true r refl
entry-back (told Unlink (NoBecause x)) st r = no_true r refl

-- a back-pointer has its entry, or a record
pub back-why : (c : Content) (n : ℕ) (w : Way) (e : Bool) → rule w e true ≡ true
    → (e ≡ true) ⊎ ((r : Record) × (recs_of c n w ≡ r ∷ []) × (entry_of r ≡ entry_at c n))
back-why c n idle true r = inl refl
back-why c n idle false r = no_true r refl
back-why c n (rests k s) e r = inr (_, refl, refl)
back-why c n (asking k) e r = inr (_, refl, refl)
back-why c n (told k t) e r = inr (_, refl, refl)
