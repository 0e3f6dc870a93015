-- The first accepted one of candidates that are tried list by list.
use mathlib.Core.Bool.{false, true}
use mathlib.Core.List.{List, [], ◌++◌, ◌∷◌, map}
use mathlib.Core.Path.{◌∙◌, ◌≡◌, ap, refl, sym}
use Prim.Native.Nat.{◌+◌, ◌<◌, suc, zero, ℕ}
use native.Mathlib.Numerals.{add-one}
use native.Mathlib.Omega.{arith}
use lib.Dec.{eqb}
use lib.ListN.{get_or, length}
use borrow.Author.Tests.{eqb-false, eqb-true}
use Rattle.lists.specs.Lists.{each}
use Rattle.lists.proofs.Tests.{by_test}
use Rattle.protocol.specs.Answers.{Outcome, accepted}
use Rattle.protocol.specs.Events.{Event}
use Rattle.protocol.specs.Settle.{first_accepted, found, nothing}
use Rattle.protocol.specs.Tables.{Model}
use Rattle.protocol.proofs.Settling.{first-hit, first-miss}

module _ (f : Event → Model → Outcome) (m : Model) where
  pub first-none : first_accepted f m [] ≡ nothing
  unfolding first_accepted
  first-none = refl

  -- one candidate alone
  pub first_one : (e : Event) → accepted (f e m) ≡ true → first_accepted f m (e ∷ []) ≡ found e
  first_one e t = first-hit f m e [] t

  pub first-refused : (e : Event) → accepted (f e m) ≡ false → first_accepted f m (e ∷ []) ≡ nothing
  first-refused e t = first-miss f m e [] t ∙ first-none

  -- behind candidates of which none is accepted
  pub first_past : (xs ys : List Event) → first_accepted f m xs ≡ nothing → first_accepted f m (xs ++ ys) ≡ first_accepted f m ys
  first_past [] ys h = refl
  first_past (x ∷ xs) ys h =
      by_test (accepted (f x m))
      (λ t. absurd (let z : ◌≡◌ {A = ℕ} 0 1 = cc (first-hit f m x xs t) in omega arith))
      (λ t. first-miss f m x (xs ++ ys) t ∙ first_past xs ys (sym (first-miss f m x xs t) ∙ h))

  -- and before others
  pub first-kept : (xs ys : List Event) (e : Event) → first_accepted f m xs ≡ found e → first_accepted f m (xs ++ ys) ≡ found e
  first-kept [] ys e h = absurd (let z : ◌≡◌ {A = ℕ} 0 1 = cc first-none in omega arith)
  first-kept (x ∷ xs) ys e h =
      by_test (accepted (f x m))
      (λ t. first-hit f m x (xs ++ ys) t ∙ sym (first-hit f m x xs t) ∙ h)
      (λ t. first-miss f m x (xs ++ ys) t ∙ first-kept xs ys e (sym (first-miss f m x xs t) ∙ h))

  -- the lists g 0, g 1 and so on, one after the other
  module _ (g : ℕ → List Event) where
    pub each_none : first_accepted f m (each 0 g) ≡ nothing
    unfolding each
    each_none = first-none

    pub each-missed : (i : ℕ) → first_accepted f m (each i g) ≡ nothing → first_accepted f m (g i) ≡ nothing → first_accepted f m (each (i + 1) g) ≡ nothing
    unfolding each
    each-missed i h k = rw (add-one i) (first_past (each i g) (g i) h ∙ k)

    pub each-found : (n i : ℕ) (e : Event) → i < n → first_accepted f m (each i g) ≡ nothing → first_accepted f m (g i) ≡ found e → first_accepted f m (each n g) ≡ found e
    unfolding each
    each-found zero i e l h k = absurd (omega arith)
    each-found (suc n) i e l h k =
        by_test (eqb i n)
        (λ t. let q : i ≡ n = eqb-true i n t in first_past (each n g) (g n) (rw q at h) ∙ (rw q at k))
        (λ t. first-kept (each n g) (g n) e (each-found n i e (let q = eqb-false i n t in omega arith) h k))

-- a list, element by element
module _ {A : Type 0} (u : A → Event) (d : A) where
  abbrev at : List A → ℕ → List Event
  at l i = u (get_or l i d) ∷ []

  each-cons : (n : ℕ) (x : A) (l : List A) → each (suc n) (at (x ∷ l)) ≡ u x ∷ each n (at l)
  unfolding each
  each-cons zero x l = refl
  each-cons (suc n) x l = ap (λ (k : List Event). k ++ u (get_or l n d) ∷ []) (each-cons n x l)

  pub map_each : (l : List A) → map u l ≡ each (length l) (at l)
  unfolding each
  map_each [] = refl
  map_each (x ∷ l) = ap (λ (k : List Event). u x ∷ k) (map_each l) ∙ sym (each-cons (length l) x l)
