-- Settling takes accepted steps, counts them and their replies, and stops only when none is accepted.
use mathlib.Core.Bool.{Bool, ◌&&◌, false, true}
use mathlib.Core.List.{List, Memᴰ, [], ◌++◌, ◌∷◌, map}
use mathlib.Core.Logic.{◌⊎◌, inl, inr}
use mathlib.Core.Path.{◌∙◌, ◌≡◌, ap, refl, sym}
use Prim.Native.Nat.{◌*◌, ◌+◌, ◌<◌, ◌≤◌, suc, zero, ℕ}
use native.Mathlib.Nat.{add-zero, le_refl}
use native.Mathlib.Omega.{arith}
use lib.Dec.{eqb}
use lib.ListN.{length}
use borrow.Author.Tests.{eqb-false, eqb-true, ltb-true}
use Rattle.lists.specs.Lists.{all, keep}
use Rattle.protocol.specs.Advance.{advance, advance_found}
use Rattle.protocol.specs.Answers.{Outcome, accepted, check}
use Rattle.protocol.specs.Bounds.{max_records}
use Rattle.protocol.specs.Claims.{Takes}
use Rattle.protocol.specs.Deliver.{deliver}
use Rattle.protocol.specs.Demands.{AllUp, accepted_in, is_step, open_records}
use Rattle.protocol.specs.Elements.{Answer, OutOfOrder, Record, Reply, Tally, is_one, is_other}
use Rattle.protocol.specs.Events.{advancing, crashing, creating, cutting, delivering, Event, linking, opening, recovering, unlinking, answers, apply, bare, run}
use Rattle.protocol.specs.Order.{in_order}
use Rattle.protocol.specs.Settle.{Found, Settled, advances, candidates, deliveries, first_accepted, found, nothing, plus_if, rested, settle, settle_by, steps_by, tallied, zero_tally}
use Rattle.protocol.specs.Tables.{Model, Partition, is_partition, no_partition, partition, partition_count, record_bears}
use Rattle.lists.proofs.Keep.{kept, tally}
use Rattle.lists.proofs.Members.{all_append, all-each, all-get, all_map, each-mem, seen-mem}
use Rattle.lists.proofs.Sums.{total-most}
use Rattle.lists.proofs.Tests.{and_left, and_right, both_true, by_test, hit, no_true}
use Rattle.protocol.proofs.Applied.{apply-is, apply-order, run-order}
use Rattle.protocol.proofs.Bound.{accepted-more, bound}
use Rattle.protocol.proofs.Changes.{no_step}
use Rattle.protocol.proofs.Progress.{go_on, steps_up}
use Rattle.protocol.proofs.Tells.{order-whole}
use Rattle.protocol.proofs.Whole.{Whole}

-- ---- what is accepted stands among the candidates, and they are advances and deliveries

advances-steps : (m : Model) → all is_step (advances m) ≡ true
unfolding advances
advances-steps m = all-each is_step (partition_count m) _ (λ p. all_map is_step _ (partition m p).records (λ r. refl))

deliveries-steps : (m : Model) → all is_step (deliveries m) ≡ true
unfolding deliveries all
deliveries-steps m = all-each is_step (partition_count m) _ (λ s. all-each is_step (partition_count m) _ (λ r. refl))

candidates-steps : (m : Model) → all is_step (candidates m) ≡ true
candidates-steps m = all_append is_step (advances m) (deliveries m) (advances-steps m) (deliveries-steps m)

map-mem : (p : ℕ) (r : Record) (l : List Record) → Memᴰ r l
    → Memᴰ (advancing p r.number) (map (λ (y : Record). advancing p y.number) l)
map-mem p r l (mathlib.Core.List.Memᴰ.head e) = mathlib.Core.List.Memᴰ.head (ap (λ (y : Record). advancing p y.number) e)
map-mem p r (y ∷ l) (mathlib.Core.List.Memᴰ.tail i) = mathlib.Core.List.Memᴰ.tail (map-mem p r l i)

advance-candidate : (m : Model) (p n : ℕ) → accepted (advance m p n) ≡ true → Memᴰ (advancing p n) (candidates m)
unfolding advance check advances
advance-candidate m p n e =
    by_test (is_partition m p)
    (λ w. by_test (partition m p).up
    (λ t. go (ltb-true _ _ w) (keep (record_bears n) (partition m p).records) refl (rw (w, t) at e))
    (λ t. no_step (rw (w, t) at e)))
    (λ w. no_step (rw w at e))
  where
    go : p < length m.partitions → (rs : List Record) → keep (record_bears n) (partition m p).records ≡ rs → accepted (advance_found m p rs) ≡ true
        → Memᴰ (advancing p n) (candidates m)
    go h [] q c = no_step c
    go h (r ∷ rs) q c =
        let i : Memᴰ r (partition m p).records = seen-mem (record_bears n) (partition m p).records rs r q in
        let nr : r.number ≡ n = eqb-true r.number n (kept (record_bears n) (partition m p).records r rs q) in
        mathlib.Core.List.Memᴰ.cast (ap (advancing p) (sym nr))
        (mathlib.Core.List.Memᴰ.append_left (deliveries m) (each-mem (length m.partitions) _ p (advancing p r.number) h (map-mem p r (partition m p).records i)))

deliver-candidate : (m : Model) (s r : ℕ) → accepted (deliver m s r) ≡ true → Memᴰ (delivering s r) (candidates m)
unfolding deliver check deliveries
deliver-candidate m s r e =
    by_test (is_partition m s && is_partition m r)
    (λ w. mathlib.Core.List.Memᴰ.append_right (advances m)
    (each-mem (length m.partitions) _ s (delivering s r) (ltb-true _ _ (and_left _ _ w))
    (each-mem (length m.partitions) (λ q. delivering s q ∷ []) r (delivering s r) (ltb-true _ _ (and_right (is_partition m s) _ w))
    (mathlib.Core.List.Memᴰ.head refl))))
    (λ w. no_step (rw w at e))

bare-candidate : (e : Event) (m : Model) → is_step e ≡ true → accepted (bare e m) ≡ true → Memᴰ e (candidates m)
unfolding bare
bare-candidate (linking p d s q o) m t a = no_step t
bare-candidate (creating p d s q o) m t a = no_step t
bare-candidate (unlinking p d s) m t a = no_step t
bare-candidate (advancing p n) m t a = advance-candidate m p n a
bare-candidate (delivering s r) m t a = deliver-candidate m s r a
bare-candidate (cutting a b) m t e = no_step t
bare-candidate (crashing p) m t a = no_step t
bare-candidate (recovering p) m t a = no_step t
bare-candidate (opening k) m t a = no_step t

-- ---- the first accepted one

module _ (f : Event → Model → Outcome) (m : Model) where
  pub first-hit : (e : Event) (es : List Event) → accepted (f e m) ≡ true → first_accepted f m (e ∷ es) ≡ found e
  unfolding first_accepted
  first-hit e es t = rw (t, first_accepted) refl

  pub first-miss : (e : Event) (es : List Event) → accepted (f e m) ≡ false → first_accepted f m (e ∷ es) ≡ first_accepted f m es
  unfolding first_accepted
  first-miss e es t = rw (t, first_accepted) refl

  found_first : (es : List Event) (e : Event) → first_accepted f m es ≡ found e → Memᴰ e es × (accepted (f e m) ≡ true)
  unfolding first_accepted
  found_first [] e h = absurd (let z : ◌≡◌ {A = ℕ} 0 1 = cc in omega arith)
  found_first (x ∷ es) e h =
      by_test (accepted (f x m))
      (λ t. let q : x ≡ e = cc (first-hit x es t) in (mathlib.Core.List.Memᴰ.head (sym q), rw (← q) t))
      (λ t. let r = found_first es e (sym (first-miss x es t) ∙ h) in (mathlib.Core.List.Memᴰ.tail r.0, r.1))

  nothing-first : (es : List Event) → first_accepted f m es ≡ nothing → (e : Event) → Memᴰ e es → accepted (f e m) ≡ false
  nothing-first [] h e i = absurd (mathlib.Core.List.Memᴰ.not-nil i)
  nothing-first (x ∷ es) h e i =
      by_test (accepted (f x m))
      (λ t. absurd (found-not x (sym (first-hit x es t) ∙ h)))
      (λ t. elim (mathlib.Core.List.Memᴰ.cases_cons i) [
        | inl q ↦ ap (λ (y : Event). accepted (f y m)) q ∙ t
        | inr j ↦ nothing-first es (sym (first-miss x es t) ∙ h) e j
      ])
    where
      found-not : (x : Event) → found x ≡ nothing → ⊥
      found-not x e = let z : ◌≡◌ {A = ℕ} 0 1 = cc in omega arith

-- the two ways that a settling run goes on
module _ (f : Event → Model → Outcome) (n : ℕ) (t : Tally) (m : Model) where
  pub settle-nothing : first_accepted f m (candidates m) ≡ nothing → settle_by f (suc n) t m ≡ rested t m
  unfolding settle_by
  settle-nothing h = rw (h, settle_by) refl

  pub settle-found : (e : Event) → first_accepted f m (candidates m) ≡ found e
      → settle_by f (suc n) t m ≡ settle_by f n (tallied (f e m).answer.reply t) (f e m).model
  unfolding settle_by
  settle-found e h = rw (h, settle_by) refl

  steps-nothing : first_accepted f m (candidates m) ≡ nothing → steps_by f (suc n) m ≡ []
  unfolding steps_by
  steps-nothing h = rw (h, steps_by) refl

  steps-found : (e : Event) → first_accepted f m (candidates m) ≡ found e → steps_by f (suc n) m ≡ e ∷ steps_by f n (f e m).model
  unfolding steps_by
  steps-found e h = rw (h, steps_by) refl

-- ---- a settling run is the run of its steps

abbrev tallied_all : Tally → List Answer → Tally
tallied_all t [] = t
tallied_all t (a ∷ l) = tallied_all (tallied a.reply t) l

-- from tables t, by a run's steps es
abbrev AsRun : ℕ → Tally → Model → List Event → Type 0
AsRun n t m es = settle_by apply n t m ≡ rested (tallied_all t (answers es m)) (run es m)

settle-runs : (n : ℕ) (t : Tally) (m : Model) → AsRun n t m (steps_by apply n m)
unfolding answers run
settle-runs zero t m = unfold settle_by steps_by in refl
settle-runs (suc n) t m = go (first_accepted apply m (candidates m)) refl (settle-runs n)
  where
    go : (x : Found) → first_accepted apply m (candidates m) ≡ x → ((t : Tally) (m : Model) → AsRun n t m (steps_by apply n m))
        → AsRun (suc n) t m (steps_by apply (suc n) m)
    go nothing h ih = rw (steps-nothing apply n t m h, settle-nothing apply n t m h) refl
    go (found e) h ih = rw (steps-found apply n t m e h, settle-found apply n t m e h) (ih (tallied (apply e m).answer.reply t) (apply e m).model)

-- what its steps are
pub record Steps (n : ℕ) (m : Model) (es : List Event) : Type 0 where
  pub are_steps : all is_step es ≡ true
  pub all_accepted : accepted_in es m ≡ length es
  pub most : length es ≤ n
  pub stops : (length es ≡ n) ⊎ (first_accepted apply (run es m) (candidates (run es m)) ≡ nothing)

pub settle-steps : (n : ℕ) (m : Model) → Steps n m (steps_by apply n m)
settle-steps zero m = unfold steps_by all accepted_in answers keep in
    (record { are_steps = refl; all_accepted = refl; most = le_refl 0; stops = inl refl })
settle-steps (suc n) m = go (first_accepted apply m (candidates m)) refl (settle-steps n)
  where
    go : (x : Found) → first_accepted apply m (candidates m) ≡ x → ((m : Model) → Steps n m (steps_by apply n m))
        → Steps (suc n) m (steps_by apply (suc n) m)
    go nothing h ih =
        rw (steps-nothing apply n zero_tally m h)
        (unfold all accepted_in answers keep run in (record { are_steps = refl; all_accepted = refl; most = omega arith; stops = inr h }))
    go (found e) h ih =
        let r : Steps n (apply e m).model (steps_by apply n (apply e m).model) = ih (apply e m).model in
        let a = found_first apply m (candidates m) e h in
        rw (steps-found apply n zero_tally m e h)
        (unfold all run in (record {
          are_steps = both_true (all-get is_step (candidates m) (candidates-steps m) e a.0) r.are_steps;
          all_accepted = accepted-more e _ m ∙ rw a.1 (let b = r.all_accepted in omega arith);
          most = let b = r.most in omega arith;
          stops = elim r.stops [ inl q ↦ inl (ap suc q) | inr q ↦ inr q ];
        }))

-- what it counts
tally-steps : (t : Tally) (l : List Answer) → (tallied_all t l).steps ≡ length l + t.steps
tally-steps t [] = omega arith
tally-steps t (a ∷ l) = let b = tally-steps (tallied a.reply t) l in omega arith

plus-if : (b : Bool) (n : ℕ) → plus_if b n ≡ hit b + n
plus-if true n = omega arith
plus-if false n = omega arith

-- a count of the replies that pass a test; c reads it off a tally
tally-replies : (c : Tally → ℕ) (f : Reply → Bool) → ((r : Reply) (t : Tally) → c (tallied r t) ≡ plus_if (f r) (c t))
    → (t : Tally) (l : List Answer) → c (tallied_all t l) ≡ length (keep (λ (a : Answer). f a.reply) l) + c t
tally-replies c f h t [] = unfold keep in (omega arith)
tally-replies c f h t (a ∷ l) =
    let b = tally-replies c f h (tallied a.reply t) l in
    let d = tally (λ (y : Answer). f y.reply) a l in
    let e = h a.reply t ∙ plus-if (f a.reply) (c t) in
    omega arith

answers-length : (es : List Event) (m : Model) → length (answers es m) ≡ length es
unfolding answers
answers-length [] m = refl
answers-length (e ∷ es) m = ap suc (answers-length es (apply e m).model)

-- ---- settle, from tables in order

no_more : (m : Model) → in_order m ≡ true → first_accepted apply m (candidates m) ≡ nothing → (e : Event) → is_step e ≡ true
    → accepted (apply e m) ≡ false
no_more m o h e t =
    by_test (accepted (apply e m))
    (λ a. nothing-first apply m (candidates m) h e (bare-candidate e m t (ap accepted (sym (apply-is e m o)) ∙ a)))
    (λ a. a)

pub settle-accepts : (n : ℕ) (t : Tally) (m : Model) → in_order m ≡ true → settle n t m ≡ settle_by apply n zero_tally m
unfolding settle
settle-accepts n t m o = rw o refl

pub settle-refuses : (n : ℕ) (t : Tally) (m : Model) → in_order m ≡ false → settle n t m ≡ record { refusal = OutOfOrder; tally = t; model = m }
unfolding settle
settle-refuses n t m o = rw o refl

pub settle-reaches : (n : ℕ) (t : Tally) (m : Model) → in_order m ≡ true → (settle n t m).model ≡ run (steps_by apply n m) m
settle-reaches n t m o = ap (λ (z : Settled). z.model) (settle-accepts n t m o ∙ settle-runs n zero_tally m)

pub settle-takes : (n : ℕ) (t : Tally) (m : Model) → in_order m ≡ true → Takes n m (settle n t m)
settle-takes n t m o =
    let es : List Event = steps_by apply n m in
    let r : Steps n m es = settle-steps n m in
    let q : settle n t m ≡ rested (tallied_all zero_tally (answers es m)) (run es m) = settle-accepts n t m o ∙ settle-runs n zero_tally m in
    record {
      accepts = ap (λ (z : Settled). z.refusal) q;
      are_steps = r.are_steps;
      all_accepted = r.all_accepted;
      reaches = ap (λ (z : Settled). z.model) q;
      counts = ap (λ (z : Settled). z.tally.steps) q ∙ tally-steps zero_tally (answers es m) ∙ add-zero _ ∙ answers-length es m;
      ones = ap (λ (z : Settled). z.tally.ones) q ∙ tally-replies (λ (y : Tally). y.ones) is_one (λ r y. refl) zero_tally (answers es m)
          ∙ add-zero _;
      others = ap (λ (z : Settled). z.tally.others) q ∙ tally-replies (λ (y : Tally). y.others) is_other (λ r y. refl) zero_tally (answers es m)
          ∙ add-zero _;
      most = r.most;
      eight = let b = bound es m o r.are_steps in let c = r.all_accepted in omega arith;
      stops = elim r.stops [ inl e ↦ inl e | inr e ↦ inr (no_more (run es m) (run-order es m o) e) ];
    }

-- ---- the steps need no test

first-is : (m : Model) → in_order m ≡ true → (es : List Event) → first_accepted apply m es ≡ first_accepted bare m es
first-is m o [] = unfold first_accepted in refl
first-is m o (e ∷ es) =
    let q : accepted (apply e m) ≡ accepted (bare e m) = ap accepted (apply-is e m o) in
    by_test (accepted (bare e m))
    (λ t. first-hit apply m e es (q ∙ t) ∙ sym (first-hit bare m e es t))
    (λ t. first-miss apply m e es (q ∙ t) ∙ first-is m o es ∙ sym (first-miss bare m e es t))

settle-bare : (n : ℕ) (t : Tally) (m : Model) → in_order m ≡ true → settle_by apply n t m ≡ settle_by bare n t m
settle-bare zero t m o = unfold settle_by in refl
settle-bare (suc n) t m o = go (first_accepted bare m (candidates m)) refl (settle-bare n)
  where
    go : (x : Found) → first_accepted bare m (candidates m) ≡ x
        → ((t : Tally) (m : Model) → in_order m ≡ true → settle_by apply n t m ≡ settle_by bare n t m)
        → settle_by apply (suc n) t m ≡ settle_by bare (suc n) t m
    go nothing h ih = settle-nothing apply n t m (first-is m o (candidates m) ∙ h) ∙ sym (settle-nothing bare n t m h)
    go (found e) h ih =
        settle-found apply n t m e (first-is m o (candidates m) ∙ h)
        ∙ ih (tallied (apply e m).answer.reply t) (apply e m).model (apply-order e m o)
        ∙ ap (λ (y : Outcome). settle_by bare n (tallied y.answer.reply t) y.model) (apply-is e m o)
        ∙ sym (settle-found bare n t m e h)

pub settle-untested : (n : ℕ) (t : Tally) (m : Model) → in_order m ≡ true → settle n t m ≡ settle_by bare n zero_tally m
settle-untested n t m o = settle-accepts n t m o ∙ settle-bare n zero_tally m o

pub settle-order : (n : ℕ) (t : Tally) (m : Model) → in_order m ≡ true → in_order (settle n t m).model ≡ true
settle-order n t m o = rw (settle-reaches n t m o) (run-order (steps_by apply n m) m o)

-- ---- with eight steps for each open record taken, all logs are empty

accepted-snoc : (es : List Event) (e : Event) (m : Model) → accepted_in (es ++ e ∷ []) m ≡ accepted_in es m + hit (accepted (apply e (run es m)))
unfolding run
accepted-snoc [] e m = accepted-more e [] m ∙ (unfold accepted_in answers keep in (omega arith))
accepted-snoc (x ∷ es) e m =
    let a = accepted-more x (es ++ e ∷ []) m in let b = accepted-more x es m in let c = accepted-snoc es e (apply x m).model in omega arith

pub steps-empty : (es : List Event) (m : Model) → in_order m ≡ true → AllUp m → all is_step es ≡ true → 8 * open_records m ≤ accepted_in es m
    → open_records (run es m) ≡ 0
steps-empty es m o u st h =
    by_test (eqb (open_records (run es m)) 0)
    (λ t. eqb-true _ 0 t)
    (λ t.
    let x = go_on (run es m) (run-order es m o) (steps_up es m o st u) (eqb-false _ 0 t) in
    let a = accepted-snoc es x.0 m in
    let b : hit (accepted (apply x.0 (run es m))) ≡ 1 = rw x.2 refl in
    let c = bound (es ++ x.0 ∷ []) m o (all_append is_step es (x.0 ∷ []) st (unfold all in (both_true x.1 refl))) in
    absurd (omega arith))

pub settle-empties : (n : ℕ) (t : Tally) (m : Model) → in_order m ≡ true → AllUp m → 8 * open_records m ≤ n → open_records (settle n t m).model ≡ 0
settle-empties n t m o u h =
    let es : List Event = steps_by apply n m in
    let r : Steps n m es = settle-steps n m in
    rw (settle-reaches n t m o)
    (elim r.stops [
      | inl e ↦ steps-empty es m o u r.are_steps (let a = r.all_accepted in omega arith)
      | inr e ↦ by_test (eqb (open_records (run es m)) 0) (λ z. eqb-true _ 0 z)
          (λ z. let x = go_on (run es m) (run-order es m o) (steps_up es m o r.are_steps u) (eqb-false _ 0 z) in no_true x.2
          (no_more (run es m) (run-order es m o) e x.0 x.1))
    ])

-- four partitions have at most 64 records open
pub settle-small : (n : ℕ) (t : Tally) (m : Model) → in_order m ≡ true → (settle n t m).tally.steps ≤ 512
unfolding open_records partition no_partition
settle-small n t m o =
    let w : Whole m = order-whole m o in
    let a = total-most (λ (x : Partition). length x.records) no_partition refl max_records m.partitions (λ p. (w.neat p).records) in
    let b = w.shape.partitions in
    let c = settle-takes n t m o in
    let d = c.counts in
    let e = c.eight in
    omega arith
