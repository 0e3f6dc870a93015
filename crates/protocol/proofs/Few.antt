-- How many messages a queue holds: no more of a number than records bear it.
use mathlib.Core.Bool.{Bool, not, true}
use mathlib.Core.List.{Memᴰ, []}
use mathlib.Core.Path.{◌≡◌, ap, refl}
use Prim.Native.Nat.{◌<◌, ◌≤◌, suc, ℕ}
use native.Mathlib.Omega.{arith}
use lib.Dec.{eqb, ltb}
use lib.ListN.{length}
use borrow.Author.Tests.{eq-eqb, ltb-false, ltb-true}
use Rattle.lists.specs.Lists.{keep}
use Rattle.protocol.specs.Bounds.{max_messages, max_partitions, max_records}
use Rattle.protocol.specs.Elements.{Body, Message, No, NoBecause, Record, Request, Yes, is_request}
use Rattle.protocol.specs.Order.{giver}
use Rattle.protocol.specs.Tables.{Model, partition, queue, record_bears}
use Rattle.lists.proofs.Keep.{some-mem}
use Rattle.lists.proofs.Members.{keep-mem, kept-mem, length-halves, length-keep-keep, mem-keep}
use Rattle.lists.proofs.Sums.{by_number, by-number-ge, sum-le, sum_lt}
use Rattle.lists.proofs.Tests.{both_true, by_test, eqb_same, no_true}
use Rattle.protocol.proofs.Numbers.{about}

pub request-giver : (a b : ℕ) (t : Body) → is_request t ≡ true → giver t a b ≡ a
request-giver a b Request e = refl
request-giver a b Yes e = no_true e refl
request-giver a b No e = no_true e refl
request-giver a b (NoBecause k) e = no_true e refl

pub answer-giver : (a b : ℕ) (t : Body) → not (is_request t) ≡ true → giver t a b ≡ b
answer-giver a b Request e = no_true e refl
answer-giver a b Yes e = refl
answer-giver a b No e = refl
answer-giver a b (NoBecause k) e = refl

-- in each queue, of each number no more messages than records; and no records above the last
pub record Few (m : Model) : Type 0 where
  pub each : (p n a b : ℕ) → b < max_partitions → length (keep (about a b p n) (queue m a b)) ≤ length (keep (record_bears n) (partition m p).records)
  pub small : (p n : ℕ) → (partition m p).last < n → keep (record_bears n) (partition m p).records ≡ []
  pub sixteen : (p : ℕ) → length (partition m p).records ≤ max_records

module _ (m : Model) (f : Few m) (a b : ℕ) (hb : b < max_partitions) where
  -- the messages of p, whose test is g, are no more than p's records; fewer, if a record has none
  module _ (p : ℕ) (g : Message → Bool) (own : (x : Message) → g x ≡ true → giver x.body a b ≡ p) where
    abbrev N : ℕ
    N = suc (partition m p).last

    about-of : (n : ℕ) (x : Message) → eqb x.number n ≡ true → g x ≡ true → about a b p n x ≡ true
    about-of n x e t = both_true (eq-eqb _ p (own x t)) e

    abbrev mine : ℕ → ℕ
    mine n = length (keep (λ (x : Message). eqb x.number n) (keep g (queue m a b)))

    under : (n : ℕ) → mine n ≤ length (keep (about a b p n) (queue m a b))
    under n = length-keep-keep (λ x. eqb x.number n) g (about a b p n) (about-of n) (queue m a b)

    each-le : (n : ℕ) → mine n ≤ length (keep (record_bears n) (partition m p).records)
    each-le n = let e = under n in let d = f.each p n a b hb in omega arith

    all_small : (x : Message) → Memᴰ x (keep g (queue m a b)) → x.number < N
    all_small x i =
        let t : g x ≡ true = kept-mem g (queue m a b) x i in
        let j : Memᴰ x (keep (about a b p x.number) (queue m a b)) = mem-keep (about a b p x.number) (queue m a b) x
        (keep-mem g (queue m a b) x i) (about-of x.number x (eqb_same x.number) t) in
        by_test (ltb (partition m p).last x.number)
        (λ u.
        let z : length (keep (record_bears x.number) (partition m p).records) ≡ 0 = ap length (f.small p x.number (ltb-true _ _ u)) in
        let y = f.each p x.number a b hb in let k = some-mem _ j in absurd (omega arith))
        (λ u. let y = ltb-false (partition m p).last x.number u in omega arith)

    pub half : length (keep g (queue m a b)) ≤ length (partition m p).records
    half =
        let s₁ = by-number-ge (λ (x : Message). x.number) N (keep g (queue m a b)) all_small in
        let s₂ = sum-le N mine (λ n. length (keep (record_bears n) (partition m p).records)) (λ n h. each-le n) in
        let s₃ = by_number (λ (r : Record). r.number) N (partition m p).records in
        omega arith

    pub half-less : (n : ℕ) → keep (about a b p n) (queue m a b) ≡ [] → 1 ≤ length (keep (record_bears n) (partition m p).records)
        → length (keep g (queue m a b)) < length (partition m p).records
    half-less n e h =
        let below-N : n < N = by_test (ltb (partition m p).last n)
        (λ u. let z : length (keep (record_bears n) (partition m p).records) ≡ 0 = ap length (f.small p n (ltb-true _ _ u)) in absurd (omega arith))
        (λ u. let y = ltb-false (partition m p).last n u in omega arith) in
        let s₁ = by-number-ge (λ (x : Message). x.number) N (keep g (queue m a b)) all_small in
        let s₂ = sum_lt N mine (λ n. length (keep (record_bears n) (partition m p).records)) each-le n below-N
        (let u = under n in let v = ap length e in omega arith) in
        let s₃ = by_number (λ (r : Record). r.number) N (partition m p).records in
        omega arith

  abbrev req : Message → Bool
  req x = is_request x.body

  abbrev ans : Message → Bool
  ans x = not (is_request x.body)

  requests : length (keep req (queue m a b)) ≤ length (partition m a).records
  requests = half a req (λ x e. request-giver a b x.body e)

  replies : length (keep ans (queue m a b)) ≤ length (partition m b).records
  replies = half b ans (λ x e. answer-giver a b x.body e)

  pub queue-short : length (queue m a b) ≤ max_messages
  queue-short = let h₁ = requests in let h₂ = replies in let h₃ = length-halves req (queue m a b) in let h₄ = f.sixteen a in let h₅ =
      f.sixteen b in omega arith

  -- room for one more, where a record of the sender, or of the receiver, has no message there
  pub room_out : (n : ℕ) → keep (about a b a n) (queue m a b) ≡ [] → 1 ≤ length (keep (record_bears n) (partition m a).records)
      → length (queue m a b) < max_messages
  room_out n e h =
      let h₁ = half-less a req (λ x e. request-giver a b x.body e) n e h in
      let h₂ = replies in let h₃ = length-halves req (queue m a b) in let h₄ = f.sixteen a in let h₅ = f.sixteen b in omega arith

  pub room-home : (n : ℕ) → keep (about a b b n) (queue m a b) ≡ [] → 1 ≤ length (keep (record_bears n) (partition m b).records)
      → length (queue m a b) < max_messages
  room-home n e h =
      let h₁ = half-less b ans (λ x e. answer-giver a b x.body e) n e h in
      let h₂ = requests in let h₃ = length-halves req (queue m a b) in let h₄ = f.sixteen a in let h₅ = f.sixteen b in omega arith
