-- Of any advances and deliveries, no more are accepted than eight for each record that was open.
use mathlib.Core.Bool.{true}
use mathlib.Core.List.{List, [], ◌∷◌}
use mathlib.Core.Path.{◌∙◌, ◌≡◌, ap, refl, subst, sym}
use Prim.Native.Nat.{◌*◌, ◌+◌, ◌<◌, ◌≤◌, suc, ℕ}
use native.Mathlib.Nat.{le_refl}
use native.Mathlib.Omega.{arith}
use lib.Dec.{eqb, ltb}
use lib.ListN.{get_or-eq_default, length}
use borrow.Author.Tests.{eqb-true, ltb-false, ltb-true}
use Rattle.lists.specs.Lists.{all, keep}
use Rattle.protocol.specs.Answers.{Outcome, accepted}
use Rattle.protocol.specs.Bounds.{max_partitions}
use Rattle.protocol.specs.Demands.{accepted_in, is_step, open_records}
use Rattle.protocol.specs.Elements.{Answer, Record, is_accepted}
use Rattle.protocol.specs.Events.{Event, answers, apply, bare}
use Rattle.protocol.specs.Order.{in_order}
use Rattle.protocol.specs.Tables.{Model, Partition, no_partition, partition, record_bears}
use Rattle.lists.proofs.Keep.{tally}
use Rattle.lists.proofs.Sums.{by_number, sum, sum-ge, sum-le, sum_lt, sum-times, total-sum}
use Rattle.lists.proofs.Tests.{and_left, and_right, by_test, eqb_same, hit}
use Rattle.protocol.proofs.Applied.{apply-is, refused-keeps}
use Rattle.protocol.proofs.Kept.{step-moves}
use Rattle.protocol.proofs.Look.{Shape, four}
use Rattle.protocol.proofs.Moves.{Moves}
use Rattle.protocol.proofs.Numbers.{here}
use Rattle.protocol.proofs.Shows.{no_last, whole-order}
use Rattle.protocol.proofs.Tells.{order-whole}
use Rattle.protocol.proofs.Whole.{Fit, Moved, Whole, given, load, moved-load, moved-whole, recs_of, weigh-le}

-- over the numbers below k
weight : {m : Model} → Whole m → ℕ → ℕ
weight w k = sum max_partitions (λ p. sum k (λ n. load (w.local p n)))

weight-le : {m : Model} (w : Whole m) (k : ℕ) → weight w k ≤ 8 * sum max_partitions (λ p. length (partition m p).records)
unfolding weight
weight-le {m} w k =
    let a = sum-le max_partitions (λ p. sum k (λ n. load (w.local p n))) (λ p. 8 * length (partition m p).records) (λ p h. row p) in
    let b = sum-times max_partitions (λ p. length (partition m p).records) in
    omega arith
  where
    row : (p : ℕ) → sum k (λ n. load (w.local p n)) ≤ 8 * length (partition m p).records
    row p =
        let a = sum-le k (λ n. load (w.local p n)) (λ n. 8 * length (keep (record_bears n) (partition m p).records))
        (λ n h. let y : Fit m p n = w.local p n in rw y.has.records (weigh-le y.what n y.entries y.way)) in
        let b = sum-times k (λ n. length (keep (record_bears n) (partition m p).records)) in
        let c = by_number (λ (r : Record). r.number) k (partition m p).records in
        omega arith

weight-less : {m m' : Model} {p n : ℕ} (w : Whole m) (x : Moved m m' p n (load (w.local p n))) (k : ℕ) → p < max_partitions → n < k
    → weight (moved-whole w x) k < weight w k
unfolding weight
weight-less {p} {n} w x k hp hn =
    sum_lt max_partitions _ _ (λ p'. sum-le k _ _ (λ n' h. each p' n')) p hp
    (sum_lt k _ _ (each p) n hn (rw (moved-load w x p n, eqb_same p, eqb_same n) x.less))
  where
    each : (p' n' : ℕ) → load ((moved-whole w x).local p' n') ≤ load (w.local p' n')
    each p' n' =
        rw (moved-load w x p' n')
        (by_test (here p n p' n')
        (λ t. rw t (rw (eqb-true p' p (and_left _ _ t), eqb-true n' n (and_right (eqb p' p) _ t)) (let l = x.less in omega arith)))
        (λ t. rw t (le_refl _)))

pub no-records : (m : Model) (p : ℕ) → length m.partitions ≤ p → (partition m p).records ≡ []
unfolding partition no_partition
no-records m p h = ap (λ (x : Partition). x.records) (get_or-eq_default m.partitions no_partition {n = p} h)

inside : {m : Model} (w : Whole m) (p n : ℕ) → 0 < load (w.local p n) → p < length m.partitions
unfolding keep
inside {m} w p n h =
    by_test (ltb p (length m.partitions))
    (λ t. ltb-true _ _ t)
    (λ t.
    let y : Fit m p n = w.local p n in
    let e : length (recs_of y.what n y.way) ≡ 0 = ap length
    (sym y.has.records ∙ ap (keep (record_bears n)) (no-records m p (ltb-false _ _ t))) in
    absurd (omega (arith, weigh-le y.what n y.entries y.way)))

record Lighter (m' : Model) (N w : ℕ) : Type 0 where
  whole : Whole m'
  less : weight whole N < w
  lasts : (q : ℕ) → (partition m' q).last < N

lighter : (N : ℕ) {m m' : Model} (g : Whole m) → Moves m m' g → ((q : ℕ) → (partition m q).last < N) → Lighter m' N (weight g N)
lighter N {m} g x h =
    let w : 0 < load (g.local x.giver x.number) = let l = x.moved.less in omega arith in
    let p4 : x.giver < max_partitions = four g.shape x.giver (inside g x.giver x.number w) in
    let below-N : x.number < N =
    by_test (ltb (partition m x.giver).last x.number)
    (λ t. absurd (given g x.giver x.number w (ltb-true _ _ t)))
    (λ t. let a = ltb-false (partition m x.giver).last x.number t in let b = h x.giver in omega arith) in
    record { whole = moved-whole g x.moved; less = weight-less g x.moved N p4 below-N; lasts = λ q. rw (x.moved.others.lasts q) (h q) }

pub accepted-more : (e : Event) (es : List Event) (m : Model) → accepted_in (e ∷ es) m ≡ hit (accepted (apply e m)) + accepted_in es (apply e m).model
unfolding accepted_in answers
accepted-more e es m = tally (λ (a : Answer). is_accepted a.refusal) (apply e m).answer (answers es (apply e m).model)

-- each accepted step takes one at least from the weight
steps-bound : (N : ℕ) (es : List Event) (m : Model) → all is_step es ≡ true → (g : Whole m) → ((q : ℕ) → (partition m q).last < N)
    → accepted_in es m ≤ weight g N
unfolding all
steps-bound N [] m st g h = unfold accepted_in answers keep in (omega arith)
steps-bound N (e ∷ es) m st g h =
    let q : apply e m ≡ bare e m = apply-is e m (whole-order m g) in
    let s = accepted-more e es m in
    by_test (accepted (apply e m))
    (λ a.
    let x : Lighter (apply e m).model N (weight g N) =
    subst (λ (o : Outcome). Lighter o.model N (weight g N)) (sym q)
    (lighter N g (step-moves e m g (and_left _ _ st) (ap accepted (sym q) ∙ a)) h) in
    let b = steps-bound N es (apply e m).model (and_right (is_step e) _ st) x.whole x.lasts in
    let c = x.less in
    let d : hit (accepted (apply e m)) ≡ 1 = rw a refl in
    omega arith)
    (λ a.
    let k : (apply e m).model ≡ m = ap (λ (o : Outcome). o.model) (refused-keeps e m a) in
    let b : accepted_in es (apply e m).model ≤ weight g N = rw k (steps-bound N es m (and_right (is_step e) _ st) g h) in
    let d : hit (accepted (apply e m)) ≡ 0 = rw a refl in
    omega arith)

below-sum : (m : Model) → Shape m → (q : ℕ) → (partition m q).last < suc (sum max_partitions (λ p. (partition m p).last))
below-sum m s q =
    by_test (ltb q max_partitions)
    (λ t. let a = sum-ge max_partitions (λ p. (partition m p).last) q (ltb-true q max_partitions t) in omega arith)
    (λ t. let a = no_last m q (let b = s.partitions in let c = ltb-false q max_partitions t in omega arith) in omega arith)

records-sum : (m : Model) → Shape m → sum max_partitions (λ p. length (partition m p).records) ≡ open_records m
unfolding open_records partition no_partition
records-sum m s = total-sum (λ (x : Partition). length x.records) no_partition refl m.partitions max_partitions s.partitions

pub bound : (es : List Event) (m : Model) → in_order m ≡ true → all is_step es ≡ true → accepted_in es m ≤ 8 * open_records m
bound es m o st =
    let g : Whole m = order-whole m o in
    let N : ℕ = suc (sum max_partitions (λ p. (partition m p).last)) in
    let a = steps-bound N es m st g (below-sum m g.shape) in
    let b = weight-le g N in
    let c = records-sum m g.shape in
    omega arith
