-- A settling run, step by step: what is left of it gives what the whole gives.
use mathlib.Core.Bool.{Bool, ◌&&◌, false, true}
use mathlib.Core.Path.{◌∙◌, ◌≡◌, ap, refl, sym}
use Prim.Native.Nat.{◌+◌, ◌-◌, ◌<◌, ◌≤◌, suc, zero, ℕ}
use native.Mathlib.Numerals.{add-one}
use native.Mathlib.Omega.{arith}
use Rattle.lists.proofs.Tests.{and_left, and_right, by_test}
use Rattle.protocol.specs.Bounds.{largest_number}
use Rattle.protocol.specs.Elements.{is_one, is_other}
use Rattle.protocol.specs.Events.{Event, bare}
use Rattle.protocol.specs.Order.{in_order}
use Rattle.protocol.specs.Settle.{Found, candidates, first_accepted, found, nothing, plus_if, rested, settle_by, tallied, zero_tally}
use Rattle.protocol.specs.Tables.{Model}
use Rattle.protocol.specs.declared.Refusal.TheVariants.{Accepted, OutOfOrder}
use Rattle.protocol.specs.declared.Reply.{Reply}
use Rattle.protocol.specs.declared.Tally.{Tally}
use Rattle.protocol.proofs.Kept.{keeps-order}
use Rattle.protocol.proofs.Settling.{settle-found, settle-nothing, settle-refuses, settle-untested}
use Rattle.tables.specs.View.{Sized, pack, shaped, view}
use Rattle.tables.specs.declared.Tables.{Tables}
use Rattle.tables.proofs.Packs.{pack-view, view-pack}
use Rattle.tables.proofs.Shapes.{order-shaped}
use Rattle.answers.specs.Called.{Ready}
use Rattle.std.specs.Prelude.{None, Some}
use Rattle.steps.specs.Stepped.{step_of}
use Rattle.steps.specs.declared.Step.{Step}
use Rattle.settle.specs.Settled.{Counts, Settled, settled, settled_on}

-- ---- tables in order, stored

in-order-ready : (m : Model) (u : Tables) → in_order m ≡ true → u ≡ pack m → Ready u
in-order-ready m u o e =
    let v : view u ≡ m = ap view e ∙ view-pack m in
    record { shaped = rw e (order-shaped m o); order = rw v o }

-- ---- the two ways on

module _ (t : Tables) (e : Event) (a : Step) (h : Some a ≡ step_of t (found e)) where
  replies : a.reply ≡ (bare e (view t)).answer.reply
  unfolding step_of
  replies = cc

  leaves : a.tables ≡ pack (bare e (view t)).model
  unfolding step_of
  leaves = cc

-- a step was accepted, or none was
some-found : (t : Tables) (x : Found) (a : Step) → Some a ≡ step_of t x → x ≡ nothing → {A : Type 0} → A
unfolding step_of
some-found t nothing a h e = cc
some-found t (found c) a h e = cc

none-found : (t : Tables) (x : Found) → None ≡ step_of t x → x ≡ nothing
unfolding step_of
none-found t nothing h = refl
none-found t (found c) h = cc

plus-most : (b : Bool) (k j : ℕ) → k ≤ j → plus_if b k ≤ suc j
plus-most true k j h = omega arith
plus-most false k j h = omega arith

-- ---- a run

-- after some steps, which stand in the tally y, the tables are u; at most k steps are left
pub record Running (t : Tables) (n : ℕ) (k : ℕ) (y : Tally) (u : Tables) : Type 0 where
  pub ready : Ready u
  pub packed : pack (view u) ≡ u
  pub rest : settle_by bare k y (view u) ≡ settle_by bare n zero_tally (view t)
  pub steps : y.steps + k ≤ n
  pub ones : y.ones ≤ y.steps
  pub others : y.others ≤ y.steps

pub run-start : (t : Tables) (n : ℕ) (y : Tally) → Sized t → Ready t → y ≡ zero_tally → Running t n (n - 0) y t
run-start t n y z r e =
    let q : n - 0 ≡ n = omega arith in
    rw q (record { ready = r; packed = pack-view t z r.shaped; rest = ap (λ (x : Tally). settle_by bare n x (view t)) e; steps = rw e (omega arith); ones = rw e (omega arith); others = rw e (omega arith) })

module _ (t : Tables) (n k : ℕ) (y : Tally) (u : Tables) (w : Running t n k y u) where
  pub run-ready : Ready u
  run-ready = w.ready

  run-counts : 0 < k → n ≤ largest_number → Counts y
  run-counts h b =
      let a = w.steps in let c = w.ones in let d = w.others in record { steps = omega arith; ones = omega arith; others = omega arith }

  at_rest : (s : Settled) → settle_by bare k y (view u) ≡ rested y (view u) → s ≡ record { refusal = Accepted; tally = y; tables = u }
      → s ≡ settled_on t (settle_by bare n zero_tally (view t))
  unfolding settled_on
  at_rest s q h =
      h ∙ ap (λ (v : Tables). record { refusal = Accepted; tally = y; tables = v }) (sym w.packed)
      ∙ ap (settled_on t) (sym q ∙ w.rest)

  pub run-over : (s : Settled) → k ≤ 0 → s ≡ record { refusal = Accepted; tally = y; tables = u } → s ≡ settled_on t (settle_by bare n zero_tally (view t))
  unfolding settle_by
  run-over s b h = let q : k ≡ zero = omega arith in at_rest s (rw q refl) h

  module _ (h : 0 < k) where
    left : k ≡ suc (k - 1)
    left = omega arith

    run-rests : (s : Settled) → None ≡ step_of u (first_accepted bare (view u) (candidates (view u))) → s ≡ record { refusal = Accepted; tally = y; tables = u }
        → s ≡ settled_on t (settle_by bare n zero_tally (view t))
    run-rests s e g =
        at_rest s (ap (λ (j : ℕ). settle_by bare j y (view u)) left ∙ settle-nothing bare (k - 1) y (view u) (none-found u _ e)) g

    run-turn : (a : Step) → Some a ≡ step_of u (first_accepted bare (view u) (candidates (view u))) → (x : Tally) → x ≡ tallied a.reply y → Running t n (k - 1) x a.tables
    run-turn a e x ex = go (first_accepted bare (view u) (candidates (view u))) refl
      where
        go : (z : Found) → first_accepted bare (view u) (candidates (view u)) ≡ z → Running t n (k - 1) x a.tables
        go nothing q = some-found u _ a e q
        go (found c) q =
            let p : Some a ≡ step_of u (found c) = e ∙ ap (step_of u) q in
            let ir : a.reply ≡ (bare c (view u)).answer.reply = replies u c a p in
            let iv : a.tables ≡ pack (bare c (view u)).model = leaves u c a p in
            let im : view a.tables ≡ (bare c (view u)).model = ap view iv ∙ view-pack _ in
            let s = w.steps in let i = w.ones in let j = w.others in
            record {
              ready = in-order-ready (bare c (view u)).model a.tables (keeps-order c (view u) w.ready.order) iv;
              packed = ap pack im ∙ sym iv;
              rest = ap (settle_by bare (k - 1) x) im
                  ∙ ap (λ (y' : Tally). settle_by bare (k - 1) y' (bare c (view u)).model) (ex ∙ ap (λ (l : Reply). tallied l y) ir)
                  ∙ sym (settle-found bare (k - 1) y (view u) c q) ∙ ap (λ (j : ℕ). settle_by bare j y (view u)) (sym left) ∙ w.rest;
              steps = rw ex (omega arith);
              ones = rw ex (plus-most (is_one a.reply) y.ones y.steps i);
              others = rw ex (plus-most (is_other a.reply) y.others y.steps j);
            }

-- i steps are taken
module _ (t : Tables) (n i : ℕ) (y : Tally) (u : Tables) (w : Running t n (n - i) y u) (h : i < n) where
  pub turn-counts : n ≤ largest_number → Counts y
  turn-counts b = run-counts t n (n - i) y u w (omega arith) b

  pub turn-rests : (s : Settled) → None ≡ step_of u (first_accepted bare (view u) (candidates (view u))) → s ≡ record { refusal = Accepted; tally = y; tables = u }
      → s ≡ settled_on t (settle_by bare n zero_tally (view t))
  turn-rests s e g = run-rests t n (n - i) y u w (omega arith) s e g

  pub turn-on : (a : Step) → Some a ≡ step_of u (first_accepted bare (view u) (candidates (view u))) → (x : Tally) → x ≡ tallied a.reply y → Running t n (n - (i + 1)) x a.tables
  turn-on a e x ex = let q : n - (i + 1) ≡ (n - i) - 1 = omega arith in rw q (run-turn t n (n - i) y u w (omega arith) a e x ex)

-- ---- the test of the order comes first

module _ (t : Tables) (n : ℕ) (y : Tally) (b : Bool) (e : b ≡ (shaped t && in_order (view t))) (s : Settled) where
  pub settle-tested : b ≡ true → s ≡ settled_on t (settle_by bare n zero_tally (view t)) → s ≡ settled t n y
  unfolding settled
  settle-tested f h =
      let s1 : shaped t ≡ true = and_left _ _ (sym e ∙ f) in let o : in_order (view t) ≡ true = and_right (shaped t) _ (sym e ∙ f) in
      h ∙ ap (settled_on t) (sym (settle-untested n y (view t) o)) ∙ rw s1 refl

  pub settle-untidy : b ≡ false → s ≡ record { refusal = OutOfOrder; tally = y; tables = t } → s ≡ settled t n y
  unfolding settled settled_on
  settle-untidy f h =
      by_test (shaped t)
      (λ s1. let o : in_order (view t) ≡ false = (rw s1 at (sym e)) ∙ f in h ∙ rw (s1, settle-refuses n y (view t) o) refl)
      (λ s1. h ∙ rw s1 refl)

pub ruleset runs = (run-start, run-ready, run-over, turn-counts, turn-rests, turn-on)

pub ruleset settles = (settle-tested, settle-untidy)
