-- The lone check: a law for each way through the code.
use mathlib.Core.Bool.{Bool, false, true}
use mathlib.Core.List.{List}
use mathlib.Core.Path.{◌∙◌, ◌≡◌, refl, sym}
use Prim.Native.Nat.{ℕ}
use Rattle.std.specs.Prelude.{Err, Ok}
use Rattle.lists.specs.Lists.{pick}
use Rattle.lists.proofs.Tests.{by_test}
use Rattle.protocol.specs.declared.Refusal.{Refusal}
use Rattle.protocol.specs.declared.Refusal.TheVariants.{OutOfOrder}
use Rattle.tables.specs.View.{view_partition}
use Rattle.picture.specs.Answers.{Pictured}
use Rattle.picture.specs.Lone.{checked, checked_alone, judged_alone, lone, order_alone, refusal_of}
use Rattle.picture.specs.Picture.{Picture, first, read}
use Rattle.picture.specs.Rows.{Read, fail, more}
use Rattle.picture.specs.declared.Picture.{Picture as Shown}

module _ (s : List ℕ) where
  pub lone-fail : (why : Refusal) → Pictured s (Err why) → Err why ≡ checked s
  unfolding checked checked_alone
  lone-fail why p = rw (← p.telling) refl

  module _ (x : Shown) (p : Pictured s (Ok x)) (b : Bool) (o : b ≡ order_alone (view_partition x.tables)) where
    judged : checked s ≡ pick b (Ok tt) (Err OutOfOrder)
    unfolding checked checked_alone
    judged = rw (← p.telling, o) refl

    pub lone-good : b ≡ true → Ok tt ≡ checked s
    lone-good h = sym (judged ∙ rw h refl)

    pub lone-bad : b ≡ false → Err OutOfOrder ≡ checked s
    lone-bad h = sym (judged ∙ rw h refl)

  -- the refusal is that of the definition
  pub lone-told : refusal_of (checked s) ≡ lone s
  unfolding checked checked_alone lone judged_alone
  lone-told = by (read first s)
    where
      by : (R : Read Picture) → refusal_of (checked_alone R) ≡ judged_alone R
      by (fail why) = refl
      by (more x r) = by_test (order_alone x.tables) (λ e. rw e refl) (λ e. rw e refl)

pub ruleset lone_laws = (lone-fail, lone-good, lone-bad)
