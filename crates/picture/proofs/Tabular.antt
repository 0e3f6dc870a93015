-- The round trip as one law over tables of rows: what is put is read, and no other bytes are.
use mathlib.Core.Bool.{Bool, ◌&&◌, false, not, true}
use mathlib.Core.List.{List, [], ◌++◌, append_assoc}
use mathlib.Core.Path.{◌∙◌, ◌≡◌, refl, subst, sym}
use Prim.Native.Nat.{◌+◌, ◌≤◌, ℕ}
use native.Mathlib.Omega.{arith}
use lib.Dec.{leb}
use lib.ListN.{length}
use borrow.Author.Tests.{le-leb, leb-true}
use Rattle.lists.specs.Lists.{all}
use Rattle.codec.specs.Codec.{is_byte}
use Rattle.picture.specs.Rows.{Contents, Row, Section, Table, ◌before◌, close, counted, fits, fitting, many, marked, more, next, put_row, put_rows, put_table, read_table}
use Rattle.lists.proofs.Alls.{all_rest}
use Rattle.lists.proofs.Tests.{and_left, and_right, both_true, not-false}
use Rattle.codec.proofs.Laws.{Lawful}
use Rattle.picture.proofs.Rounds.{many-only, many-reads, next_more, not-many, not-one, same_mark}

-- the bytes behind the first ones are bytes
pub rest-bytes : (bs x q : List ℕ) → all is_byte bs ≡ true → bs ≡ x ++ q → all is_byte q ≡ true
rest-bytes bs x q a e = all_rest is_byte x q (subst (λ (l : List ℕ). all is_byte l ≡ true) e a)

module _ {H : Type 0} where
  abbrev pub Lawfuls : Table H → Type 0
  Lawfuls close = Unit
  Lawfuls (s before t) = Lawful s.row.form × Lawfuls t

  -- a row's mark is none of those of the rows behind it, and not the mark of the close
  unfoldable pub foreign : {A Z : Type 0} → Row A → Table H → Row Z → Bool
  foreign v close z = not (same_mark v z)
  foreign v (s before t) z = not (same_mark v s.row) && foreign v t z

  unfoldable pub marks_apart : {Z : Type 0} → Table H → Row Z → Bool
  marks_apart close z = true
  marks_apart (s before t) z = foreign s.row t z && marks_apart t z

  -- how many records there may be
  unfoldable pub rooms : Table H → ℕ
  rooms close = 0
  rooms (s before t) = s.room + rooms t

  module _ {Z : Type 0} (z : Row Z) (n : Z) where
    foreign-put : {A : Type 0} (v : Row A) (t : Table H) (c : Contents t) (r : List ℕ) → foreign v t z ≡ true → marked v (put_table t c ++ (put_row z n ++ r)) ≡ false
    unfolding foreign put_table
    foreign-put v close c r f = not-one v z n r (not-false _ f)
    foreign-put v (s before t) c r f =
        rw (append_assoc (put_rows s.row c.0) (put_table t c.1) (put_row z n ++ r))
        (not-many v s.row c.0 (put_table t c.1 ++ (put_row z n ++ r)) (not-false _ (and_left (not (same_mark v s.row)) (foreign v t z) f)) (foreign-put v t c.1 r (and_right (not (same_mark v s.row)) (foreign v t z) f)))

    pub table-reads : (t : Table H) → Lawfuls t → marks_apart t z ≡ true → (h : H) (c : Contents t) (r : List ℕ) → fitting t h c ≡ true
        → read_table t h (put_table t c ++ (put_row z n ++ r)) ≡ more c (put_row z n ++ r)
    unfolding read_table put_table marks_apart fitting next
    table-reads close l a h c r f = refl
    table-reads (s before t) l a h c r f =
        let q = put_row z n ++ r in
        let test = fits s.row (s.test h) [] c.0 && leb (length c.0) s.room in
        let g = and_left test (fitting t h c.1) f in
        let m = foreign-put s.row t c.1 r (and_left (foreign s.row t z) (marks_apart t z) a) in
        let k = many-reads s.row l.0 (s.test h) s.room [] c.0 (put_table t c.1 ++ q) (and_left _ _ g) (leb-true _ _ (and_right (fits s.row (s.test h) [] c.0) _ g)) m in
        rw (append_assoc (put_rows s.row c.0) (put_table t c.1) q, k)
        (rw (table-reads t l.1 (and_right (foreign s.row t z) (marks_apart t z) a) h c.1 r (and_right test (fitting t h c.1) f)) refl)

  section-only : (s : Section H) → Lawful s.row.form → (h : H) (bs : List ℕ) (ys : List s.Item) (r : List ℕ) → all is_byte bs ≡ true → many s.row (s.test h) s.room [] bs ≡ more ys r
      → (bs ≡ put_rows s.row ys ++ r) × (fits s.row (s.test h) [] ys && leb (length ys) s.room ≡ true)
  section-only s l h bs ys r a e =
      let (xs, b) = many-only s.row l (s.test h) s.room [] bs ys r a e in
      section-back s.row (s.test h) s.room bs xs ys r b.0 b.1 b.2 b.3
    where
      section-back : {A : Type 0} (w : Row A) (t : List A → A → Bool) (n : ℕ) (bs : List ℕ) (xs ys : List A) (r : List ℕ) → ys ≡ xs → bs ≡ put_rows w xs ++ r → fits w t [] xs ≡ true → length xs ≤ n → (bs ≡ put_rows w ys ++ r) × (fits w t [] ys && leb (length ys) n ≡ true)
      section-back w t n bs xs ys r p q f h = (q ∙ rw p, rw p (both_true f (le-leb _ _ h)))

  pub table-only : (t : Table H) → Lawfuls t → (h : H) (bs : List ℕ) (c : Contents t) (r : List ℕ) → all is_byte bs ≡ true → read_table t h bs ≡ more c r
      → (bs ≡ put_table t c ++ r) × (fitting t h c ≡ true)
  unfolding read_table put_table fitting
  table-only close l h bs c r a e = let q : bs ≡ r = cc in (q, refl)
  table-only (s before t) l h bs c r a e =
      let (xs, q, f, g) = next_more (many s.row (s.test h) s.room [] bs) _ c r e in
      let (d, o, i, j) = next_more (read_table t h q) _ c r g in
      let u = section-only s l.0 h bs xs q a f in
      let v = table-only t l.1 h q d o (rest-bytes bs (put_rows s.row xs) q a u.0) i in
      let m : (xs, d) ≡ c = cc in
      let n : o ≡ r = cc in
      table-back s t h bs q o r xs d c m n u.0 u.1 v.0 v.1
    where
      table-back : (s : Section H) (t : Table H) (h : H) (bs q o r : List ℕ) (xs : List s.Item) (d : Contents t) (c : Contents (s before t)) → (xs, d) ≡ c → o ≡ r → bs ≡ put_rows s.row xs ++ q
          → fits s.row (s.test h) [] xs && leb (length xs) s.room ≡ true → q ≡ put_table t d ++ o → fitting t h d ≡ true → (bs ≡ put_table (s before t) c ++ r) × (fitting (s before t) h c ≡ true)
      table-back s t h bs q o r xs d c m n u f v g =
          (u ∙ rw (v, ← m, ← n) (sym (append_assoc (put_rows s.row xs) (put_table t d) o)), rw (← m) (both_true f g))

  pub counted-most : (t : Table H) (h : H) (c : Contents t) → fitting t h c ≡ true → counted t c ≤ rooms t
  unfolding counted rooms fitting
  counted-most close h c f = omega arith
  counted-most (s before t) h c f =
      let test = fits s.row (s.test h) [] c.0 && leb (length c.0) s.room in
      let a : length c.0 ≤ s.room = leb-true _ _ (and_right (fits s.row (s.test h) [] c.0) _ (and_left test (fitting t h c.1) f)) in
      let b = counted-most t h c.1 (and_right test (fitting t h c.1) f) in
      omega arith
