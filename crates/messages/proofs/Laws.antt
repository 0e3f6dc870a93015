-- A law for each way through the tests that are no plain chain or loop.
use mathlib.Core.Bool.{Bool, ◌||◌, false, not, true}
use mathlib.Core.List.{List, [], ◌∷◌}
use mathlib.Core.Path.{◌≡◌, refl}
use Prim.Native.Nat.{◌+◌, ℕ}
use native.Mathlib.Omega.{arith}
use lib.Dec.{eqb}
use lib.ListN.{length}
use borrow.Author.Tests.{ne_eqb}
use Rattle.std.specs.List.{filter}
use Rattle.lists.proofs.Library.{keep-filter}
use Rattle.lists.specs.Lists.{is_none, keep}
use Rattle.protocol.specs.Elements.{is_sent}
use Rattle.protocol.specs.Order.{is_answer_to, is_request_of}
use Rattle.protocol.specs.declared.Message.{Message}
use Rattle.protocol.specs.declared.Record.{Record}
use Rattle.messages.specs.Clauses.{record_answered}
use Rattle.lists.proofs.Tests.{no_true}

-- ---- O6: a record and its one message
module _ (r : ℕ) (q back : List Message) (x : Record) where
  pub record-settled : (sent : Bool) → sent ≡ is_sent x.stage → (not sent || not (eqb x.partition r)) ≡ true → true ≡ record_answered r q back x
  unfolding record_answered
  record-settled sent e z = rw (← e) (go sent (eqb x.partition r) (eqb (length (keep (is_request_of x) q) + length (keep (is_answer_to x) back)) 1) z)
    where
      go : (a b c : Bool) → (not a || not b) ≡ true → true ≡ (not a || (not b || c))
      go true true c z = no_true z refl
      go true false c z = refl
      go false b c z = refl

  pub record-counted : is_sent x.stage ≡ true → eqb x.partition r ≡ true → (n k : ℕ) → n ≡ length (filter (is_request_of x) q) → k ≡ length (filter (is_answer_to x) back) → eqb (n + k) 1 ≡ record_answered r q back x
  unfolding record_answered
  record-counted z h n k u v = rw (z, h, u, v, keep-filter (is_request_of x) q, keep-filter (is_answer_to x) back)

pub ruleset answereds = (record-settled, record-counted)

-- ---- O7: messages only where both partitions are up
pub none-empty : {A : Type 0} (l : List A) → eqb (length l) 0 ≡ is_none l
none-empty [] = refl
none-empty (x ∷ l) = ne_eqb (length (x ∷ l)) 0 (λ e. absurd (omega arith))
