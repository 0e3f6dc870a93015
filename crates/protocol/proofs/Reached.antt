-- Reachable tables: in order, and each number's ties.
use mathlib.Core.Bool.{◌&&◌, true}
use mathlib.Core.List.Memᴰ
use mathlib.Core.List.{List, Memᴰ, [], ◌∷◌}
use mathlib.Core.Logic.{inl, inr}
use mathlib.Core.Path.{◌≡◌, ap, refl, subst, sym}
use Prim.Native.Nat.{◌≤◌, ℕ}
use native.Mathlib.Nat.{le_refl}
use native.Mathlib.Omega.{arith}
use lib.Dec.{eqb}
use lib.ListN.{length}
use borrow.Author.Tests.{leb-true}
use Rattle.protocol.specs.Answers.{Outcome, accepted}
use Rattle.protocol.specs.Bounds.{max_partitions}
use Rattle.protocol.specs.Demands.{Matched, is_step, open_records}
use Rattle.protocol.specs.Elements.{Create, Link, Record}
use Rattle.protocol.specs.Events.{advancing, crashing, creating, cutting, delivering, Event, linking, opening, recovering, unlinking, apply, bare, run}
use Rattle.protocol.specs.Faults.{open_tables}
use Rattle.protocol.specs.Order.{in_order}
use Rattle.protocol.specs.Tables.{Model, Partition, fresh, no_partition, partition}
use Rattle.lists.proofs.Keep.{one-le}
use Rattle.lists.proofs.Sums.{total-zero}
use Rattle.lists.proofs.Tests.{and_left, by_test}
use Rattle.protocol.proofs.Applied.{apply-is}
use Rattle.protocol.proofs.Changes.{check-keeps, no_step}
use Rattle.protocol.proofs.Content.{backpointer_at, entry_at}
use Rattle.protocol.proofs.Kept.{fresh-whole, keeps-order}
use Rattle.protocol.proofs.Refusals.{event-fair, fair-kept}
use Rattle.protocol.proofs.Safe.{accounted, all_held}
use Rattle.protocol.proofs.Shows.{whole-order}
use Rattle.protocol.proofs.Tells.{order-whole}
use Rattle.protocol.proofs.TiedEvents.{ask-ties, crash-ties, cut-ties, fresh-ties, recover-ties, unlink-ties}
use Rattle.protocol.proofs.TiedSteps.{advance-tied, deliver-tied}
use Rattle.protocol.proofs.Ties.{Tie, Ties, change-ties}
use Rattle.protocol.proofs.Whole.{Whole}

step-ties : (e : Event) (m : Model) → Whole m → Ties m → is_step e ≡ true → accepted (bare e m) ≡ true → Ties (bare e m).model
unfolding bare
step-ties (linking p d s q o) m w g t a = no_step t
step-ties (creating p d s q o) m w g t a = no_step t
step-ties (unlinking p d s) m w g t a = no_step t
step-ties (advancing p n) m w g t a = change-ties g (advance-tied m p n w.shape (g p n) a)
step-ties (delivering s r) m w g t a = change-ties g (deliver-tied m s r g w.shape (λ q o a d s. (w.neat q).keys o a d s) w.downs a).tied
step-ties (cutting a b) m w g t e = no_step t
step-ties (crashing p) m w g t a = no_step t
step-ties (recovering p) m w g t a = no_step t
step-ties (opening k) m w g t a = no_step t

open-ties : (m : Model) (k : ℕ) → Ties m → Ties (open_tables m k).model
unfolding open_tables
open-ties m k g = check-keeps Ties _ _ m _ g λ e. fresh-ties k (leb-true 1 k (and_left _ _ e))

stepped-ties : (e : Event) (m : Model) → Whole m → Ties m → is_step e ≡ true → Ties (bare e m).model
stepped-ties e m w g t =
    by_test (accepted (bare e m))
    (λ a. step-ties e m w g t a)
    (λ a. subst Ties (sym (ap (λ (o : Outcome). o.model) (fair-kept (event-fair m e w) a))) g)

event-ties : (e : Event) (m : Model) → Whole m → Ties m → Ties (bare e m).model
unfolding bare
event-ties (linking p d s q o) m w g = ask-ties Link m p d s q o w.shape (w.later p _ (le_refl _)) g
event-ties (creating p d s q o) m w g = ask-ties Create m p d s q o w.shape (w.later p _ (le_refl _)) g
event-ties (unlinking p d s) m w g = unlink-ties m p d s w.shape g
event-ties (advancing p n) m w g = stepped-ties (advancing p n) m w g refl
event-ties (delivering s r) m w g = stepped-ties (delivering s r) m w g refl
event-ties (cutting a b) m w g = cut-ties m a b g
event-ties (crashing p) m w g = crash-ties m p g
event-ties (recovering p) m w g = recover-ties m p g
event-ties (opening k) m w g = open-ties m k g

pub record Reached (m : Model) : Type 0 where
  pub order : in_order m ≡ true
  pub ties : Ties m

apply-reached : (e : Event) (m : Model) → Reached m → Reached (apply e m).model
apply-reached e m g =
    rw (apply-is e m g.order) (record { order = keeps-order e m g.order; ties = event-ties e m (order-whole m g.order) g.ties })

pub run-reached : (es : List Event) (m : Model) → Reached m → Reached (run es m)
unfolding run
run-reached [] m g = g
run-reached (e ∷ es) m g = run-reached es (apply e m).model (apply-reached e m g)

pub fresh-order : (k : ℕ) → 1 ≤ k → k ≤ max_partitions → in_order (fresh k) ≡ true
fresh-order k h₁ h₄ = whole-order (fresh k) (fresh-whole k h₁ h₄)

pub fresh-reached : (k : ℕ) → 1 ≤ k → k ≤ max_partitions → Reached (fresh k)
fresh-reached k h₁ h₄ = record { order = fresh-order k h₁ h₄; ties = fresh-ties k h₁ }

closed-log : (m : Model) → open_records m ≡ 0 → (p : ℕ) → length (partition m p).records ≡ 0
unfolding open_records partition no_partition
closed-log m e p = total-zero (λ (x : Partition). length x.records) no_partition refl m.partitions e p

pub matched : (m : Model) → Reached m → open_records m ≡ 0 → Matched m
matched m g e =
    record {
      names_hold = all_held g.ties;
      named = λ q b h. elim
          (accounted g.ties q b h) [ inl n ↦ n | inr o ↦ absurd (closed (partition m b.parent).records (closed-log m e b.parent) o.1) ];
      entries_once = λ p n. let y : Tie m p n = g.ties p n in rw y.has.entries (one-le y.entry (entry_at y.what n));
      backpointers_once = λ q p n. let y : Tie m p n = g.ties p n in rw (y.has.backpointers q)
          (one-le (y.back && eqb q y.what.partition) (backpointer_at y.what n p));
    }
  where
    closed : {r : Record} (l : List Record) → length l ≡ 0 → Memᴰ r l → ⊥
    closed [] h i = Memᴰ.not-nil i
    closed (r ∷ l) h i = omega arith
