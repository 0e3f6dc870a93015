-- What the library's methods say of a list, in this crate's words: a search, a test of all or of any, and what is kept.
use denote.Param.Members.{Mut}
use mathlib.Core.Bool.{Bool, ◌&&◌, ◌||◌, and-true, cond, false, true}
use mathlib.Core.List.{List, [], ◌∷◌}
use mathlib.Core.Path.{◌∙◌, ◌≡◌, ap, refl}
use Prim.Native.Nat.{◌+◌, suc, zero, ℕ}
use native.Mathlib.Omega.{arith}
use lib.ListN.{length}
use Rattle.std.specs.Prelude.{None, Option, Some}
use Rattle.std.specs.Fn.{Called}
use Rattle.std.specs.Iterator.{YieldsThen}
use Rattle.std.specs.List.{FoldsTo, filter, list_all, list_any, position, position_from, range_with_len}
use Rattle.std.specs.Option.{MatchOption}
use Rattle.std.proofs.lemmas.Iterator.{YieldsList}
use Rattle.std.proofs.lemmas.Iterator.Adapters.{position_from-zero}
use Rattle.std.proofs.lemmas.Iterator.Search.{all_from_yields_List, any_from_yields_List, position_from_yields_List}
use Rattle.lists.specs.Lists.{all, any, below, first_at, first_from, keep, pick}

and_assoc : (a b c : Bool) → (a && (b && c)) ≡ ((a && b) && c)
and_assoc true b c = refl
and_assoc false b c = refl

cond-pick : {B : Type 0} (b : Bool) (x y : B) → cond b x y ≡ pick b x y
cond-pick true x y = refl
cond-pick false x y = refl

module _ {A : Type 0} where
  from-position : (f : A → Bool) (k : ℕ) (l : List A) → position_from f k l ≡ first_from f k l
  unfolding first_from
  from-position f k [] = refl
  from-position f k (x ∷ l) = cond-pick (f x) (Some k) (position_from f (k + 1) l) ∙ ap (pick (f x) (Some k)) (from-position f (k + 1) l)

  pub first-position : (f : A → Bool) (l : List A) → position f l ≡ first_at f l
  first-position f l = position_from-zero f l ∙ from-position f 0 l

  pub keep-filter : (f : A → Bool) (l : List A) → filter f l ≡ keep f l
  unfolding keep
  keep-filter f [] = refl
  keep-filter f (x ∷ l) = cond-pick (f x) (x ∷ filter f l) (filter f l) ∙ ap (λ (k : List A). pick (f x) (x ∷ k) k) (keep-filter f l)

  pub all-listed : (f : A → Bool) (l : List A) → list_all f l ≡ all f l
  unfolding all
  all-listed f [] = refl
  all-listed f (x ∷ l) = ap (λ b. f x && b) (all-listed f l)

  pub any-listed : (f : A → Bool) (l : List A) → list_any f l ≡ any f l
  unfolding any
  any-listed f [] = refl
  any-listed f (x ∷ l) = ap (λ b. f x || b) (any-listed f l)

-- what `position`, `all` and `any` answer over a chain that yields this list, where the closure computes a test: as the library's
-- lemmas have it, they take the test, three `_`, the call's clause `ran`, what the chain yields, and what the closure says
module _ {S A B F : Type 0} {steps : S → Option A → S → Type 0} {v : A → B} {g : Mut F (A × Unit {0}) Bool} {s : S} {list : List B} (test : B → Bool) (u : S) (f : F) where
  pub first_of : (r : Option ℕ) → (xs : List A) × (o : Option A) × (j : F) × YieldsThen steps s xs o u × FoldsTo (λ p x q. Called g p (x, tt) false q) f xs j × MatchOption o (r ≡ None) (λ x. (r ≡ Some (length xs)) × ((h : F) × Called g j (x, tt) true h))
      → YieldsList steps v s list → ((x : A) (b : Bool) (q : F) → Called g f (x, tt) b q → (q ≡ f) × (b ≡ test (v x))) → r ≡ first_at test list
  first_of r a y k = position_from_yields_List test u f r a y k ∙ first-position test list

  pub all_of : (r : Bool) → (xs : List A) × (o : Option A) × (j : F) × YieldsThen steps s xs o u × FoldsTo (λ p x q. Called g p (x, tt) true q) f xs j × MatchOption o (r ≡ true) (λ x. (r ≡ false) × ((h : F) × Called g j (x, tt) false h))
      → YieldsList steps v s list → ((x : A) (b : Bool) (q : F) → Called g f (x, tt) b q → (q ≡ f) × (b ≡ test (v x))) → r ≡ all test list
  all_of r a y k = all_from_yields_List test u f r a y k ∙ all-listed test list

  pub any_of : (r : Bool) → (xs : List A) × (o : Option A) × (j : F) × YieldsThen steps s xs o u × FoldsTo (λ p x q. Called g p (x, tt) false q) f xs j × MatchOption o (r ≡ false) (λ x. (r ≡ true) × ((h : F) × Called g j (x, tt) true h))
      → YieldsList steps v s list → ((x : A) (b : Bool) (q : F) → Called g f (x, tt) b q → (q ≡ f) × (b ≡ test (v x))) → r ≡ any test list
  any_of r a y k = any_from_yields_List test u f r a y k ∙ any-listed test list

-- a test of every number of a range, from the first up
below-from : (f : ℕ → Bool) (a n : ℕ) → (below a f && all f (range_with_len a n)) ≡ below (a + n) f
unfolding all below
below-from f a zero = let none : a ≡ a + 0 = omega arith in and-true (below a f) ∙ ap (λ (k : ℕ). below k f) none
below-from f a (suc n) =
    let next : suc a ≡ a + 1 = omega arith in
    let last : a + 1 + n ≡ a + suc n = omega arith in
    and_assoc (below a f) (f a) (all f (range_with_len (a + 1) n))
    ∙ ap (λ (k : ℕ). below k f && all f (range_with_len (a + 1) n)) next
    ∙ below-from f (a + 1) n
    ∙ ap (λ (k : ℕ). below k f) last

pub all-range : (f : ℕ → Bool) (n : ℕ) → all f (range_with_len 0 n) ≡ below n f
unfolding below
all-range f n = let all : 0 + n ≡ n = omega arith in below-from f 0 n ∙ ap (λ (k : ℕ). below k f) all
