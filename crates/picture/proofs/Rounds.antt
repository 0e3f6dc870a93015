-- Round trips: of one record, and of the records of one kind.
use mathlib.Core.Bool.{Bool, ◌&&◌, false, true}
use mathlib.Core.List.{List, [], ◌++◌, ◌∷◌, append_assoc, append-nil}
use mathlib.Core.Path.{◌∙◌, ◌≡◌, ap, refl, subst, sym}
use Prim.Native.Nat.{◌≤◌, suc, zero, ℕ}
use native.Mathlib.Omega.{arith}
use lib.Dec.{eqb, ltb}
use lib.ListN.{drop, length}
use borrow.Author.Tests.{eq-eqb, eqb-true, le-ltb}
use Rattle.lists.specs.Lists.{all, pick}
use Rattle.protocol.specs.declared.Refusal.{Refusal}
use Rattle.protocol.specs.declared.Refusal.TheVariants.{EndsEarly, FieldOutOfRange, MarkNotAllowed}
use Rattle.codec.specs.Codec.{Got, bad, got, is_byte, none}
use Rattle.picture.specs.Rows.{Read, Row, begins, body, fail, fits, judged, many, marked, more, next, one, put_row, put_rows}
use Rattle.lists.proofs.Alls.{all_rest}
use Rattle.lists.proofs.Tests.{and_left, and_right, both_true}
use Rattle.codec.proofs.Laws.{Lawful}

-- ---- taking answers apart
pub next_more : {A B : Type 0} (g : Read A) (f : A → List ℕ → Read B) (y : B) (r : List ℕ) → next g f ≡ more y r → (a : A) × (q : List ℕ) × (g ≡ more a q) × (f a q ≡ more y r)
unfolding next
next_more (fail k) f y r e = let z : ◌≡◌ {A = ℕ} 0 1 = cc in absurd (omega arith)
next_more (more a q) f y r e = (a, q, refl, e)

judged-more : {A : Type 0} (k : Refusal) (t : A → Bool) (g : Got A) (x : A) (r : List ℕ) → judged k t g ≡ more x r → (g ≡ got x r) × (t x ≡ true)
unfolding judged
judged-more k t none x r e = let z : ◌≡◌ {A = ℕ} 0 1 = cc in absurd (omega arith)
judged-more k t bad x r e = let z : ◌≡◌ {A = ℕ} 0 1 = cc in absurd (omega arith)
judged-more k t (got y q) x r e = picked (t y) refl e
  where
    picked : (b : Bool) → t y ≡ b → pick b (more y q) (fail k) ≡ more x r → (got y q ≡ got x r) × (t x ≡ true)
    picked true h i = let m : y ≡ x = cc in let n : q ≡ r = cc in (cc, subst (λ (a : _). t a ≡ true) m h)
    picked false h i = let z : ◌≡◌ {A = ℕ} 0 1 = cc in absurd (omega arith)

module _ {A : Type 0} (w : Row A) (lawful : Lawful w.form) where
  marked-put : (x : A) (r : List ℕ) → marked w (put_row w x ++ r) ≡ true
  unfolding begins put_row
  marked-put x r = both_true (eq-eqb w.first w.first refl) (eq-eqb w.second w.second refl)

  -- a record behind its mark
  pub body_reads : (k : Refusal) (t : A → Bool) (x : A) (r : List ℕ) → w.form.fine x ≡ true → t x ≡ true → body w k t (put_row w x ++ r) ≡ more x r
  unfolding body put_row judged
  body_reads k t x r h i = rw (lawful.reads x r h, i)

  marked-split : (bs : List ℕ) → marked w bs ≡ true → bs ≡ w.first ∷ w.second ∷ drop 2 bs
  unfolding begins
  marked-split [] e = let z : ◌≡◌ {A = ℕ} 0 1 = cc in absurd (omega arith)
  marked-split (a ∷ []) e = let z : ◌≡◌ {A = ℕ} 0 1 = cc in absurd (omega arith)
  marked-split (a ∷ b ∷ r) e = cc (eqb-true a w.first (and_left _ _ e), eqb-true b w.second (and_right (eqb a w.first) _ e))

  pub body-only : (k : Refusal) (t : A → Bool) (bs : List ℕ) (x : A) (r : List ℕ) → all is_byte bs ≡ true → marked w bs ≡ true → body w k t bs ≡ more x r → (bs ≡ put_row w x ++ r) × (w.form.fine x ≡ true) × (t x ≡ true)
  unfolding body put_row
  body-only k t bs x r a m e =
      let s = marked-split bs m in
      let j = judged-more k t (w.form.get (drop 2 bs)) x r e in
      let d = lawful.only (drop 2 bs) x r (all_rest is_byte (w.first ∷ w.second ∷ []) (drop 2 bs) (subst (λ (l : List ℕ). all is_byte l ≡ true) s a)) j.0 in
      (s ∙ ap (λ (l : List ℕ). w.first ∷ w.second ∷ l) d.0, d.1, j.1)

  -- exactly one record
  long-put : (x : A) (r : List ℕ) → ltb (length (put_row w x ++ r)) 2 ≡ false
  unfolding put_row
  long-put x r = le-ltb (length (put_row w x ++ r)) 2 (omega arith)

  pub one-reads : (k : Refusal) (t : A → Bool) (x : A) (r : List ℕ) → w.form.fine x ≡ true → t x ≡ true → one w k t (put_row w x ++ r) ≡ more x r
  unfolding one
  one-reads k t x r h i = rw (long-put x r, marked-put x r) (body_reads k t x r h i)

  pub one_more : (k : Refusal) (t : A → Bool) (bs : List ℕ) (x : A) (r : List ℕ) (b c : Bool) → marked w bs ≡ c → pick b (fail EndsEarly) (pick c (body w k t bs) (fail MarkNotAllowed)) ≡ more x r → (marked w bs ≡ true) × (body w k t bs ≡ more x r)
  one_more k t bs x r true c h e = let z : ◌≡◌ {A = ℕ} 0 1 = cc in absurd (omega arith)
  one_more k t bs x r false true h e = (h, e)
  one_more k t bs x r false false h e = let z : ◌≡◌ {A = ℕ} 0 1 = cc in absurd (omega arith)

  pub one_only : (k : Refusal) (t : A → Bool) (bs : List ℕ) (x : A) (r : List ℕ) → all is_byte bs ≡ true → one w k t bs ≡ more x r → (bs ≡ put_row w x ++ r) × (w.form.fine x ≡ true) × (t x ≡ true)
  unfolding one
  one_only k t bs x r a e =
      let m = one_more k t bs x r (ltb (length bs) 2) (marked w bs) refl e in
      body-only k t bs x r a m.0 m.1

  -- all records of the kind
  module _ (t : List A → A → Bool) where
    pub many-reads : (n : ℕ) (earlier xs : List A) (r : List ℕ) → fits w t earlier xs ≡ true → length xs ≤ n → marked w r ≡ false → many w t n earlier (put_rows w xs ++ r) ≡ more (earlier ++ xs) r
    unfolding many put_rows fits next
    many-reads zero earlier [] r f h m = rw (m, append-nil earlier)
    many-reads zero earlier (x ∷ xs) r f h m = absurd (omega arith)
    many-reads (suc n) earlier [] r f h m = rw (m, append-nil earlier)
    many-reads (suc n) earlier (x ∷ xs) r f h m =
        let p = and_left (w.form.fine x && t earlier x) _ f in
        let q = and_right (w.form.fine x && t earlier x) _ f in
        rw (append_assoc (put_row w x) (put_rows w xs) r, marked-put x (put_rows w xs ++ r), body_reads FieldOutOfRange (t earlier) x (put_rows w xs ++ r) (and_left _ _ p) (and_right (w.form.fine x) _ p))
        (many-reads n (earlier ++ x ∷ []) xs r q (omega arith) m ∙ ap (λ (l : List A). more l r) (append_assoc earlier (x ∷ []) xs))

    -- what is read behind `earlier`, put back
    abbrev pub Back : ℕ → List A → List ℕ → List A → List ℕ → List A → Type 0
    Back n earlier bs ys r xs = (ys ≡ earlier ++ xs) × (bs ≡ put_rows w xs ++ r) × (fits w t earlier xs ≡ true) × (length xs ≤ n) × (marked w r ≡ false)

    back-stop : (n : ℕ) (earlier : List A) (bs : List ℕ) (ys : List A) (r : List ℕ) → marked w bs ≡ false → more earlier bs ≡ more ys r → Back n earlier bs ys r []
    unfolding put_rows fits
    back-stop n earlier bs ys r m e =
        let p : earlier ≡ ys = cc in
        let q : bs ≡ r = cc in
        (sym p ∙ sym (append-nil earlier), q, refl, omega arith, subst (λ (l : List ℕ). marked w l ≡ false) q m)

    back_step : (n : ℕ) (earlier : List A) (bs : List ℕ) (ys : List A) (r q : List ℕ) (x : A) (xs : List A) → bs ≡ put_row w x ++ q → w.form.fine x ≡ true → t earlier x ≡ true → Back n (earlier ++ x ∷ []) q ys r xs → Back (suc n) earlier bs ys r (x ∷ xs)
    unfolding put_rows fits
    back_step n earlier bs ys r q x xs b f g h = (
      h.0 ∙ append_assoc earlier (x ∷ []) xs,
      b ∙ ap (λ (l : List ℕ). put_row w x ++ l) h.1 ∙ sym (append_assoc (put_row w x) (put_rows w xs) r),
      both_true (both_true f g) h.2,
      omega (arith, h.3),
      h.4,
    )

    turn : (n : ℕ) (earlier : List A) (bs : List ℕ) (ys : List A) (r : List ℕ) → all is_byte bs ≡ true → ((q : List ℕ) (x : A) → all is_byte q ≡ true → many w t n (earlier ++ x ∷ []) q ≡ more ys r → (xs : List A) × Back n (earlier ++ x ∷ []) q ys r xs) → (b : Bool) → marked w bs ≡ b → pick b (next (body w FieldOutOfRange (t earlier) bs) (λ x q. many w t n (earlier ++ x ∷ []) q)) (more earlier bs) ≡ more ys r → (xs : List A) × Back (suc n) earlier bs ys r xs
    turn n earlier bs ys r a again true m h =
        let (x, q, i, j) = next_more (body w FieldOutOfRange (t earlier) bs) _ ys r h in
        let k = body-only FieldOutOfRange (t earlier) bs x q a m i in
        let l = again q x (all_rest is_byte (put_row w x) q (subst (λ (l : List ℕ). all is_byte l ≡ true) k.0 a)) j in
        (x ∷ l.0, back_step n earlier bs ys r q x l.0 k.0 k.1 k.2 l.1)
    turn n earlier bs ys r a again false m h = ([], back-stop (suc n) earlier bs ys r m h)

    pub many-only : (n : ℕ) (earlier : List A) (bs : List ℕ) (ys : List A) (r : List ℕ) → all is_byte bs ≡ true → many w t n earlier bs ≡ more ys r → (xs : List A) × Back n earlier bs ys r xs
    unfolding many
    many-only zero earlier bs ys r a e = last (marked w bs) refl e
      where
        last : (b : Bool) → marked w bs ≡ b → pick b (next (body w FieldOutOfRange (λ x. false) bs) (λ x q. fail FieldOutOfRange)) (more earlier bs) ≡ more ys r → (xs : List A) × Back zero earlier bs ys r xs
        last true m h =
            let (x, q, i, j) = next_more (body w FieldOutOfRange (λ x. false) bs) _ ys r h in
            let z : ◌≡◌ {A = ℕ} 0 1 = cc in absurd (omega arith)
        last false m h = ([], back-stop zero earlier bs ys r m h)
    many-only (suc n) earlier bs ys r a e = turn n earlier bs ys r a (λ q x l j. many-only n (earlier ++ x ∷ []) q ys r l j) (marked w bs) refl e

-- one record more of a kind
pub rows_more : {A : Type 0} (w : Row A) (xs : List A) (x : A) → put_rows w (xs ++ x ∷ []) ≡ put_rows w xs ++ put_row w x
unfolding put_rows
rows_more w [] x = append-nil (put_row w x)
rows_more w (y ∷ xs) x = ap (λ (l : List ℕ). put_row w y ++ l) (rows_more w xs x) ∙ sym (append_assoc (put_row w y) (put_rows w xs) (put_row w x))

-- behind records of another kind too, no record of this kind comes
abbrev pub same_mark : {A B : Type 0} → Row A → Row B → Bool
same_mark v w = eqb w.first v.first && eqb w.second v.second

pub not-one : {A B : Type 0} (v : Row A) (w : Row B) (x : B) (r : List ℕ) → same_mark v w ≡ false → marked v (put_row w x ++ r) ≡ false
unfolding begins put_row
not-one v w x r h = h

pub not-many : {A B : Type 0} (v : Row A) (w : Row B) (xs : List B) (r : List ℕ) → same_mark v w ≡ false → marked v r ≡ false → marked v (put_rows w xs ++ r) ≡ false
unfolding begins put_row put_rows
not-many v w [] r h m = m
not-many v w (x ∷ xs) r h m = h
