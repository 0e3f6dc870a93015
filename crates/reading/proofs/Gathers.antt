-- The loop that gathers the records of one kind, over any row: a law for its start, each way through a turn, and its end.
use mathlib.Core.Bool.{Bool, false, true}
use mathlib.Core.List.{List, [], ◌++◌, ◌∷◌}
use mathlib.Core.Path.{◌∙◌, ◌≡◌, ap, refl, sym}
use Prim.Native.Nat.{◌+◌, ◌-◌, ◌<◌, ◌≤◌, ℕ}
use native.Mathlib.Omega.{arith}
use lib.Dec.{leb}
use lib.ListN.{drop, length, length-drop}
use borrow.Author.Tests.{leb-false, leb-true}
use Rattle.protocol.specs.declared.Refusal.{Refusal}
use Rattle.protocol.specs.declared.Refusal.TheVariants.{FieldOutOfRange}
use Rattle.lists.specs.declared.Bounded.{Bounded}
use Rattle.lists.proofs.Fills.{take-pad}
use Rattle.tables.specs.View.{list_of, pack_list}
use Rattle.picture.specs.Answers.{within}
use Rattle.picture.specs.Rows.{Read, Row, body, fail, many, marked, more}
use Rattle.codec.proofs.Sizes.{Short}
use Rattle.lists.proofs.Tests.{by_test}
use Rattle.reading.proofs.Sectioned.{Reading, body-long, section-end, section-fail, section-full, section-start, section-turn}

-- the list that is stored
is-list : {A : Type 0} {cap : ℕ} (z : A) (xs : List A) (l : Bounded A cap) → l ≡ pack_list cap z xs → list_of l ≡ xs
is-list {A} {cap} z xs l e = ap (λ (x : Bounded A cap). list_of x) e ∙ take-pad cap z xs

module _ {A : Type 0} (w : Row A) (t : A → Bool) (cap : ℕ) (z : A) (s : List ℕ) (from : ℕ) where
  abbrev asked : Read (List A)
  asked = many w (λ earlier. t) cap [] (drop from s)

  pub record Walking (l : Bounded A cap) (at : ℕ) : Type 0 where
    pub read : Reading w (λ earlier. t) cap s asked (list_of l) at
    pub packed : pack_list cap z (list_of l) ≡ l

  pub gather-start : (l : Bounded A cap) → from ≤ length s → l ≡ pack_list cap z [] → Walking l from
  gather-start l h e = let k = is-list z [] l e in record { read = rw k (section-start w (λ earlier. t) cap s from h); packed = rw k (sym e) }

  module _ (l : Bounded A cap) (at : ℕ) (inv : Walking l at) where
    counted : l.count ≡ length (list_of l)
    counted = ap (λ (x : Bounded A cap). x.count) (sym inv.packed)

    module _ (b : Bool) (m : b ≡ marked w (drop at s)) where
      pub gather-end : b ≡ false → more (list_of l) (drop at s) ≡ asked
      gather-end f = sym (section-end w (λ earlier. t) cap s asked (list_of l) at inv.read (sym m ∙ f))

      module _ (g : b ≡ true) where
        here : marked w (drop at s) ≡ true
        here = sym m ∙ g

        abbrev met : Read A
        met = body w FieldOutOfRange t (drop at s)

        -- a refusal of one record more refuses all
        pub gather-fail : (why : Refusal) (p : List ℕ) → p ≡ drop at s → fail why ≡ within (leb cap l.count) (body w FieldOutOfRange t p) → fail why ≡ asked
        gather-fail why p same e = by met refl (rw same at e)
          where
            by : (R : Read A) → met ≡ R → fail why ≡ within (leb cap l.count) R → fail why ≡ asked
            by (fail k) q i =
                let j : why ≡ k = cc in
                ap fail j ∙ sym (section-fail w (λ earlier. t) cap s asked (list_of l) at inv.read k here q)
            by (more x r) q i =
                by_test (leb cap l.count)
                (λ f.
                let k : ◌≡◌ {A = Read A} (fail why) (fail FieldOutOfRange) = rw f at i in
                let j : why ≡ FieldOutOfRange = cc in
                ap fail j ∙ sym (section-full w (λ earlier. t) cap s asked (list_of l) at inv.read x r here q (omega (arith, counted, leb-true _ _ f))))
                (λ f. let k : fail why ≡ more x r = rw f at i in cc)

        module _ (x : A) (size : ℕ) (p : List ℕ) (same : p ≡ drop at s) (e : more x (drop size p) ≡ within (leb cap l.count) (body w FieldOutOfRange t p)) where
          seen : (l.count < cap) × (met ≡ more x (drop size (drop at s)))
          seen = by met refl (rw same at e)
            where
              by : (R : Read A) → met ≡ R → more x (drop size (drop at s)) ≡ within (leb cap l.count) R → (l.count < cap) × (met ≡ more x (drop size (drop at s)))
              by (fail k) q i = cc
              by (more y r) q i =
                  by_test (leb cap l.count)
                  (λ f. let k : more x (drop size (drop at s)) ≡ fail FieldOutOfRange = rw f at i in cc)
                  (λ f. let k : more x (drop size (drop at s)) ≡ more y r = rw f at i in (leb-false _ _ f, q ∙ sym k))

          module _ (q : 2 < size) (short : Short w.form (size - 2)) where
            pub gather-long : at + size ≤ length s
            gather-long = omega (arith, body-long w (size - 2) FieldOutOfRange (omega arith) short t (drop at s) x _ seen.1, length-drop at s, inv.read.1)

            pub gather-falls : length s - (at + size) < length s - at
            gather-falls = omega (arith, gather-long)

            pub gather-turn : (next : Bounded A cap) → next ≡ pack_list cap z (list_of l ++ x ∷ []) → Walking next (at + size)
            gather-turn next i =
                let k = is-list z (list_of l ++ x ∷ []) next i in
                record {
                  read = rw k (section-turn w (λ earlier. t) cap s asked (list_of l) at inv.read x size here seen.1 (omega (arith, counted, seen.0)) gather-long);
                  packed = rw k (sym i);
                }
