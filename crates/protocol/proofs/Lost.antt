-- A number's way after a cut or a crash: what was under way is lost, and its record is ready again.
use mathlib.Core.Bool.{Bool, false, or_comm, true}
use mathlib.Core.List.{List, [], ◌∷◌}
use mathlib.Core.Path.{◌∙◌, ◌≡◌, refl, sym}
use Prim.Native.Nat.{ℕ}
use lib.Dec.{eqb}
use Rattle.lists.specs.Lists.{map_if}
use Rattle.protocol.specs.Elements.{Backpointer, Entry, Kind, Ready, Record, Sent}
use Rattle.protocol.specs.Faults.{between, falls_with, lose, sent_between, touches}
use Rattle.protocol.specs.Tables.{Model}
use Rattle.lists.proofs.Tests.{by_test}
use Rattle.protocol.proofs.Content.{Content, Mail, home, letters, out, record_at}
use Rattle.protocol.proofs.Losses.{between-even, letters-swept, lose-view, nil, recast}
use Rattle.protocol.proofs.Numbers.{View}
use Rattle.protocol.proofs.Whole.{Way, asking, idle, mail_of, recs_of, rests, told}

abbrev pub relapse : Way → Way
relapse idle = idle
relapse (rests k g) = rests k Ready
relapse (asking k) = rests k Ready
relapse (told k t) = rests k Ready

-- the sent records that relapse are those whose queues are emptied, both of a pair
pub record Evenly (f : ℕ → Record → Bool) (g : ℕ → ℕ → Bool) : Type 0 where
  pub fair : (p : ℕ) (r : Record) → r.stage ≡ Sent → f p r ≡ g p r.partition
  pub even : (a b : ℕ) → g a b ≡ g b a

pub cut-evenly : (a b : ℕ) → Evenly (sent_between a b) (between a b)
cut-evenly a b = record { fair = λ p r e. rw e refl; even = between-even a b }

pub crash-evenly : (p : ℕ) → Evenly (falls_with p) (touches p)
crash-evenly p = record { fair = λ q r e. rw e refl; even = λ a b. or_comm (eqb a p) (eqb b p) }

-- G is to be shown of the number after the loss, from Q of its way
module _ (f : ℕ → Record → Bool) (g : ℕ → ℕ → Bool) (v : Evenly f g) (m : Model) (p n : ℕ) (c : Content) (E : List Entry) (B : ℕ → List Backpointer)
    (G : Type 0) (Q : Way → Type 0) (ready : (w : Way) → Q w → Q (relapse w))
    (to : (w : Way) → Q w → View (lose f g m) p n E (recs_of c n w) B (letters c n p (mail_of w)) → G) where
  abbrev Was : List Record → Mail → Type 0
  Was R l = View m p n E R B (letters c n p l)

  sent-lost : (k : Kind) (l : Mail) → Was (record_at c n k Sent ∷ []) l → Q (rests k Ready)
      → (View (lose f g m) p n E (record_at c n k Sent ∷ []) B (letters c n p l) → G) → G
  unfolding map_if
  sent-lost k l u r same =
      let a = v.fair p (record_at c n k Sent) refl in
      by_test (f p (record_at c n k Sent))
      (λ t. to (rests k Ready) r (recast (lose-view f g m u) (rw t refl) (letters-swept g v.even p n c true l (sym a ∙ t))))
      (λ t. same (recast (lose-view f g m u) (rw t refl) (letters-swept g v.even p n c false l (sym a ∙ t))))

  pub lost-at : (w : Way) → Q w → Was (recs_of c n w) (mail_of w) → G
  unfolding map_if
  lost-at idle q u = to idle q (recast (lose-view f g m u) refl (λ a b. nil (g a b)))
  lost-at (rests k s) q u =
      by_test (f p (record_at c n k s))
      (λ t. to (rests k Ready) (ready (rests k s) q) (recast (lose-view f g m u) (rw t refl) (λ a b. nil (g a b))))
      (λ t. to (rests k s) q (recast (lose-view f g m u) (rw t refl) (λ a b. nil (g a b))))
  lost-at (asking k) q u = sent-lost k (out k) u (ready (asking k) q) (to (asking k) q)
  lost-at (told k t) q u = sent-lost k (home k t) u (ready (told k t) q) (to (told k t) q)
