-- Calls on stored tables in order follow the events, and so do sequences of calls.
use mathlib.Core.Bool.{true}
use mathlib.Core.List.{List, [], ◌∷◌}
use mathlib.Core.Path.{◌∙◌, ◌≡◌, ap, refl, sym}
use Prim.Native.Nat.{◌≤◌, ℕ}
use Rattle.lists.proofs.Tests.{by_test}
use Rattle.protocol.specs.Answers.{Outcome, accepted}
use Rattle.protocol.specs.Bounds.{max_partitions}
use Rattle.protocol.specs.Events.{Event, apply, run}
use Rattle.protocol.specs.Order.{in_order}
use Rattle.protocol.specs.Settle.{settle}
use Rattle.protocol.specs.Tables.{Model, fresh}
use Rattle.protocol.specs.declared.Tally.{Tally}
use Rattle.protocol.proofs.Claimed.{order-kept, refusals-keep}
use Rattle.tables.specs.View.{pack, view}
use Rattle.tables.proofs.Packs.{view-pack}
use Rattle.tables.proofs.Shapes.{order-shaped}
use Rattle.answers.specs.Called.{called, stored}
use Rattle.settle.specs.Settled.{settled, settled_on}
use Rattle.service.specs.Calls.{after_calls, reached_by}

-- what is stored of an outcome, where a refusal leaves the tables
module _ (e : Event) (m : Model) (o : in_order m ≡ true) where
  follows : called (pack m) e ≡ stored (pack m) (apply e m)
  unfolding called
  follows = rw (order-shaped m o, view-pack m) refl

  pub call-answers : (called (pack m) e).answer ≡ (apply e m).answer
  unfolding stored
  call-answers = rw follows refl

  pub call-stores : (called (pack m) e).tables ≡ pack (apply e m).model
  unfolding stored
  call-stores =
      by_test (accepted (apply e m))
      (λ a. rw (follows, a) refl)
      (λ a. rw (follows, a) (ap pack (sym (ap (λ (x : Outcome). x.model) (refusals-keep.event e m a)))))

pub settle-follows : (n : ℕ) (y : Tally) (m : Model) → in_order m ≡ true → settled (pack m) n y ≡ settled_on (pack m) (settle n y m)
unfolding settled
settle-follows n y m o = rw (order-shaped m o, view-pack m) refl

calls-follow : (es : List Event) (m : Model) → in_order m ≡ true → after_calls es (pack m) ≡ pack (run es m)
unfolding after_calls run
calls-follow [] m o = refl
calls-follow (e ∷ es) m o = ap (after_calls es) (call-stores e m o) ∙ calls-follow es (apply e m).model (order-kept.kept e m o)

pub calls-mean : (k : ℕ) → 1 ≤ k → k ≤ max_partitions → (es : List Event) → view (reached_by k es) ≡ run es (fresh k)
unfolding run
calls-mean k a b es = ap view (calls-follow es (fresh k) (order-kept.always k a b [])) ∙ view-pack (run es (fresh k))
