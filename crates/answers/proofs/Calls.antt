-- A call that tests the order first is the event of document 01 on the tables, whatever they hold.
use mathlib.Core.Bool.{◌&&◌, false, true}
use mathlib.Core.Path.{◌∙◌, ◌≡◌, refl}
use Prim.Native.Nat.{ℕ}
use Rattle.names.specs.declared.Name.{Name}
use Rattle.protocol.specs.Advance.{advance}
use Rattle.protocol.specs.Answers.{check}
use Rattle.protocol.specs.Ask.{ask, unlink}
use Rattle.protocol.specs.Deliver.{deliver}
use Rattle.protocol.specs.Events.{advancing, crashing, creating, cutting, delivering, Event, linking, recovering, unlinking, apply, bare, tests}
use Rattle.protocol.specs.Faults.{crash, cut, recover}
use Rattle.protocol.specs.Order.{in_order}
use Rattle.protocol.specs.declared.Kind.TheVariants.{Create, Link}
use Rattle.protocol.specs.declared.Refusal.TheVariants.{OutOfOrder}
use Rattle.tables.specs.View.{shaped, view}
use Rattle.tables.specs.declared.Tables.{Tables}
use Rattle.answers.specs.Called.{Answered, Ready, called, refused_with, stored, tested}
use Rattle.lists.proofs.Tests.{and_left, and_right, by_test}
use Rattle.answers.proofs.Ways.{test-fails, test-passes}

pub tested-called : (t : Tables) (e : Event) → tests e ≡ true → tested t (bare e (view t)) ≡ called t e
unfolding tested called apply check
tested-called t e h =
    by_test (shaped t) (λ s. rw (s, h) (by_test (in_order (view t)) (λ o. rw o refl) (λ o. rw o refl))) (λ s. rw (s, h) refl)

-- each event by its own name
module _ (t : Tables) (a : Answered) where
  pub link-called : (p d : ℕ) (s : Name) (q o : ℕ) → a ≡ tested t (ask Link (view t) p d s q o) → a ≡ called t (linking p d s q o)
  unfolding bare
  link-called p d s q o h = h ∙ tested-called t (linking p d s q o) refl

  pub create-called : (p d : ℕ) (s : Name) (q o : ℕ) → a ≡ tested t (ask Create (view t) p d s q o) → a ≡ called t (creating p d s q o)
  unfolding bare
  create-called p d s q o h = h ∙ tested-called t (creating p d s q o) refl

  event-called : (v : Event) → tests v ≡ true → (Ready t → a ≡ stored t (bare v (view t))) → ((shaped t && in_order (view t)) ≡ false → a ≡ refused_with t OutOfOrder) → a ≡ called t v
  event-called v k pass fail =
      let b = shaped t && in_order (view t) in
      by_test b
      (λ y. test-passes t b (bare v (view t)) a refl y (pass (record { shaped = and_left _ _ y; order = and_right (shaped t) _ y })))
      (λ n. test-fails t b (bare v (view t)) a refl n (fail n))
      ∙ tested-called t v k

  pub unlink-called : (p d : ℕ) (s : Name) → (Ready t → a ≡ stored t (unlink (view t) p d s)) → ((shaped t && in_order (view t)) ≡ false → a ≡ refused_with t OutOfOrder) → a ≡ called t (unlinking p d s)
  unfolding bare
  unlink-called p d s = event-called (unlinking p d s) refl

  pub advance-called : (p n : ℕ) → (Ready t → a ≡ stored t (advance (view t) p n)) → ((shaped t && in_order (view t)) ≡ false → a ≡ refused_with t OutOfOrder) → a ≡ called t (advancing p n)
  unfolding bare
  advance-called p n = event-called (advancing p n) refl

  pub deliver-called : (s r : ℕ) → (Ready t → a ≡ stored t (deliver (view t) s r)) → ((shaped t && in_order (view t)) ≡ false → a ≡ refused_with t OutOfOrder) → a ≡ called t (delivering s r)
  unfolding bare
  deliver-called s r = event-called (delivering s r) refl

  pub cut-called : (p q : ℕ) → (Ready t → a ≡ stored t (cut (view t) p q)) → ((shaped t && in_order (view t)) ≡ false → a ≡ refused_with t OutOfOrder) → a ≡ called t (cutting p q)
  unfolding bare
  cut-called p q = event-called (cutting p q) refl

  pub crash-called : (p : ℕ) → (Ready t → a ≡ stored t (crash (view t) p)) → ((shaped t && in_order (view t)) ≡ false → a ≡ refused_with t OutOfOrder) → a ≡ called t (crashing p)
  unfolding bare
  crash-called p = event-called (crashing p) refl

  pub recover-called : (p : ℕ) → (Ready t → a ≡ stored t (recover (view t) p)) → ((shaped t && in_order (view t)) ≡ false → a ≡ refused_with t OutOfOrder) → a ≡ called t (recovering p)
  unfolding bare
  recover-called p = event-called (recovering p) refl

pub ruleset calls = (link-called, create-called, unlink-called, advance-called, deliver-called, cut-called, crash-called, recover-called)
