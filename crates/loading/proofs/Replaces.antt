-- The test of the tables that come of a whole partition stored.
use mathlib.Core.Bool.{Bool, ◌&&◌, and-false, false, true}
use mathlib.Core.Path.{◌∙◌, ◌≡◌, refl, sym}
use Rattle.protocol.specs.Order.{in_order}
use Rattle.protocol.specs.Tables.{Model}
use Rattle.protocol.specs.declared.Refusal.TheVariants.{OutOfOrder}
use Rattle.protocol.specs.declared.Reply.TheVariants.{None}
use Rattle.tables.specs.View.{pack, shaped, view}
use Rattle.tables.specs.declared.Tables.{Tables}
use Rattle.answers.specs.Called.{accepted_with, refused_with, stored}
use Rattle.answers.specs.declared.Answered.{Answered}
use Rattle.loading.specs.Loaded.{replaced}
use Rattle.lists.proofs.Tests.{by_test}
use Rattle.tables.proofs.Packs.{view-pack}
use Rattle.tables.proofs.Shapes.{order-shaped}
use Rattle.answers.proofs.Ways.{accepts, passes, refuses}

-- ---- the stored form u of a model n: the test of its order is n's

module _ (n : Model) where
  order-stored : (shaped (pack n) && in_order (view (pack n))) ≡ in_order n
  order-stored = rw (view-pack n) (by_test (in_order n) (λ o. rw (o, order-shaped n o) refl) (λ o. rw (o, and-false (shaped (pack n))) refl))

  module _ (t u : Tables) (e : u ≡ pack n) (b : Bool) (f : b ≡ (shaped u && in_order (view u))) where
    order-after : in_order n ≡ b
    order-after = sym (f ∙ rw e order-stored)

    pub replace-fails : (a : Answered) → b ≡ false → a ≡ refused_with t OutOfOrder → a ≡ stored t (replaced (view t) n)
    replace-fails a g w = w ∙ refuses t _ OutOfOrder _ _ refl (order-after ∙ g)

    pub replace-passes : (a : Answered) → b ≡ true → a ≡ accepted_with u 0 None → a ≡ stored t (replaced (view t) n)
    replace-passes a g w = w ∙ accepts t u 0 None n e ∙ passes t _ OutOfOrder _ _ (order-after ∙ g)

pub ruleset replaces = (replace-fails, replace-passes)
