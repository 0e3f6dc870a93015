-- The places where a reader stands on its way, and what it hands out there.
use mathlib.Core.Bool.{Bool, ◌&&◌, and-false, false, true}
use mathlib.Core.List.{List, [], ◌++◌, ◌∷◌, append_assoc, append-nil}
use mathlib.Core.Path.{◌∙◌, ◌≡◌, ap, refl, sym}
use Prim.Native.Nat.{◌*◌, ◌+◌, ◌<◌, ◌≤◌, ℕ}
use native.Mathlib.Omega.{arith}
use lib.Dec.{eqb, leb, ltb}
use lib.ListN.{drop, length, length-append, take}
use lib.Seq.{drop_at, take_at}
use borrow.Author.Tests.{le-leb, le-ltb, leb-true, ne_eqb}
use Rattle.lists.specs.Lists.{all}
use Rattle.names.specs.Names.{good_name}
use Rattle.protocol.specs.Bounds.{max_backpointers, max_entries, max_records}
use Rattle.protocol.specs.declared.Backpointer.{Backpointer}
use Rattle.protocol.specs.declared.Entry.{Entry}
use Rattle.protocol.specs.declared.Record.{Record}
use Rattle.protocol.specs.declared.Refusal.TheVariants.{FieldOutOfRange}
use Rattle.partitions.specs.Clauses.{backpointer_among, entry_among, placed_among, record_among}
use Rattle.codec.specs.Codec.{is_byte}
use Rattle.picture.specs.Picture.{bp, en, hd, Items, lg, backpointer_fits, entry_fits, first, head_fits, head_size, record_fits, sections}
use Rattle.picture.specs.Rows.{Row, begins, body, fits, marked, more, next, one, put_row, put_rows, put_table, read_table}
use Rattle.picture.specs.Standing.{handed_at, handed_behind, handed_next, handed_under}
use Rattle.picture.specs.declared.Head.{Head}
use Rattle.lists.proofs.Keep.{snoc-length}
use Rattle.lists.proofs.Tests.{and_left, and_right, both_true}
use Rattle.picture.proofs.Forms.{lawful-bp, lawful-en, lawful-lg}
use Rattle.picture.proofs.Lengths.{backpointer-length, entry_length, good-eight, head-length, record-length}
use Rattle.picture.proofs.Rounds.{body-only, many-reads, not-many, rows_more}
use Rattle.picture.proofs.Tabular.{rest-bytes}

-- ---- a record more of one kind

module _ {A : Type 0} (w : Row A) (test : A → Bool) where
  -- records that are read one after the other, and no more than there may be
  abbrev pub fine : ℕ → List A → Bool
  fine cap xs = fits w (λ earlier. test) [] xs && leb (length xs) cap

  fits_more : (earlier xs : List A) (x : A) → fits w (λ l. test) earlier xs ≡ true → w.form.fine x ≡ true → test x ≡ true → fits w (λ l. test) earlier (xs ++ x ∷ []) ≡ true
  unfolding fits
  fits_more earlier [] x f a b = both_true (both_true a b) refl
  fits_more earlier (y ∷ xs) x f a b =
      both_true (and_left (w.form.fine y && test y) _ f) (fits_more (earlier ++ y ∷ []) xs x (and_right (w.form.fine y && test y) _ f) a b)

  fine_more : (cap : ℕ) (xs : List A) (x : A) → fine cap xs ≡ true → w.form.fine x ≡ true → test x ≡ true → length xs < cap → fine cap (xs ++ x ∷ []) ≡ true
  fine_more cap xs x f a b l =
      let m : length (xs ++ x ∷ []) ≤ cap = rw (snoc-length xs x) (omega arith) in
      both_true (fits_more [] xs x (and_left _ _ f) a b) (le-leb _ _ m)

pub not_none : {A : Type 0} (b : Bool) (xs : List A) (x : A) → (b && eqb (length (xs ++ x ∷ [])) 0) ≡ false
not_none b xs x =
    let k = snoc-length xs x in
    rw (ne_eqb (length (xs ++ x ∷ [])) 0 (λ z. absurd (omega (arith, k, z)))) (and-false b)

-- ---- how long a record that fits is

module _ (h : Head) where
  entry-size : (e : Entry) → entry_fits h e ≡ true → length (put_row (en first) e) ≡ 18
  unfolding entry_fits entry_among
  entry-size e f = entry_length e (good-eight e.name (and_right (placed_among h.count e.directory e.partition e.object) _ (and_left (entry_among h.count e) _ f)))

  backpointer-size : (b : Backpointer) → backpointer_fits h b ≡ true → length (put_row (bp first) b) ≡ 18
  unfolding backpointer_fits backpointer_among
  backpointer-size b f = backpointer-length b (good-eight b.name (and_right (placed_among h.count b.directory b.parent b.object) _ (and_left (backpointer_among h.count b) _ f)))

  record-size : (r : Record) → record_fits h r ≡ true → length (put_row (lg first) r) ≡ 19
  unfolding record_fits record_among
  record-size r f =
      record-length r
      (good-eight r.name
      (and_left (good_name r.name) _ (and_right (placed_among h.count r.directory r.partition r.object) _ (and_left (record_among h.count r) _ f))))

-- ---- at a place of bytes s under the header h

-- the place behind the header and these records
abbrev pub place : Items first → ℕ
place c = head_size + (18 * length c.0 + (18 * length c.1.0 + 19 * length c.1.1.0))

stands : (s bs r : List ℕ) (at : ℕ) (h : Head) (c : Items first) → one (hd first) FieldOutOfRange head_fits s ≡ more h r → ltb at head_size ≡ false → ltb (length s) at ≡ false
    → read_table (sections first) h (drop head_size (take at s)) ≡ more c [] → drop at s ≡ bs → handed_at s at ≡ handed_next at h (length c.0) (length c.1.0) (length c.1.1.0) bs
unfolding handed_at handed_under handed_behind
stands s bs r at h c e a b d f = rw (e, a, b, d, f) refl

module _ (s : List ℕ) (bytes : all is_byte s ≡ true) (h : Head) (tail : List ℕ) (headed : one (hd first) FieldOutOfRange head_fits s ≡ more h tail) where
  abbrev before : Items first → List ℕ
  before c = put_row (hd first) h ++ put_table (sections first) c

  -- the reader has passed the records c, and the bytes bs are still before it
  pub record Passed (c : Items first) (bs : List ℕ) : Type 0 where
    pub split : s ≡ before c ++ bs
    pub long : length (before c) ≡ place c
    pub entries : fine (en first) (entry_fits h) max_entries c.0 ≡ true
    pub backpointers : fine (bp first) (backpointer_fits h) max_backpointers c.1.0 ≡ true
    pub records : fine (lg first) (record_fits h) max_records c.1.1.0 ≡ true

  -- what it has passed is read again
  again : (c : Items first) (bs : List ℕ) → Passed c bs → read_table (sections first) h (put_table (sections first) c) ≡ more c []
  unfolding read_table put_table next begins en bp lg
  again c bs p =
      let es = c.0 in
      let ks = c.1.0 in
      let rs = c.1.1.0 in
      let t = put_rows (lg first) rs ++ [] in
      let k3 = many-reads (lg first) (lawful-lg first) (λ l. record_fits h) max_records [] rs [] (and_left _ _ p.records) (leb-true _ _ (and_right (fits (lg first) (λ l. record_fits h) [] rs) _ p.records)) refl in
      let m2 : marked (bp first) t ≡ false = not-many (bp first) (lg first) rs [] refl refl in
      let k2 = many-reads (bp first) (lawful-bp first) (λ l. backpointer_fits h) max_backpointers [] ks t (and_left _ _ p.backpointers) (leb-true _ _ (and_right (fits (bp first) (λ l. backpointer_fits h) [] ks) _ p.backpointers)) m2 in
      let m1 : marked (en first) (put_rows (bp first) ks ++ t) ≡ false = not-many (en first) (bp first) ks t refl (not-many (en first) (lg first) rs [] refl refl) in
      let k1 = many-reads (en first) (lawful-en first) (λ l. entry_fits h) max_entries [] es (put_rows (bp first) ks ++ t) (and_left _ _ p.entries) (leb-true _ _ (and_right (fits (en first) (λ l. entry_fits h) [] es) _ p.entries)) m1 in
      rw k1 (rw k2 (rw k3 refl))

  pub here : (c : Items first) (bs : List ℕ) → Passed c bs → handed_at s (place c) ≡ handed_next (place c) h (length c.0) (length c.1.0) (length c.1.1.0) bs
  here c bs p =
      let l : length s ≡ place c + length bs = ap length p.split ∙ length-append (before c) bs ∙ rw p.long refl in
      let d : drop head_size (take (place c) s) ≡ put_table (sections first) c =
      ap (λ (k : List ℕ). drop head_size (take (place c) k)) p.split ∙ ap (drop head_size) (take_at (before c) bs (place c) p.long) ∙ drop_at (put_row (hd first) h) (put_table (sections first) c) head_size (head-length h) in
      let f : drop (place c) s ≡ bs = ap (drop (place c)) p.split ∙ drop_at (before c) bs (place c) p.long in
      stands s bs tail (place c) h c headed (le-ltb (place c) head_size (omega arith)) (le-ltb (length s) (place c) (omega (arith, l))) (ap (read_table (sections first) h) d ∙ again c bs p) f

  rest-is : (c : Items first) (bs : List ℕ) → Passed c bs → all is_byte bs ≡ true
  rest-is c bs p = rest-bytes s (before c) bs bytes p.split

  -- ---- one record further

  further : (c d : Items first) (bs r row : List ℕ) → Passed c bs → bs ≡ row ++ r → put_table (sections first) d ≡ put_table (sections first) c ++ row → length row + place c ≡ place d
      → (s ≡ before d ++ r) × (length (before d) ≡ place d)
  further c d bs r row p b g l =
      let q : before d ≡ before c ++ row = ap (λ (k : List ℕ). put_row (hd first) h ++ k) g ∙ sym (append_assoc (put_row (hd first) h) (put_table (sections first) c) row) in
      (p.split ∙ ap (λ (k : List ℕ). before c ++ k) b ∙ sym (append_assoc (before c) row r) ∙ ap (λ (k : List ℕ). k ++ r) (sym q), ap length q ∙ length-append (before c) row ∙ omega (arith, p.long, l))

  module _ (es : List Entry) (bs r : List ℕ) (x : Entry) where
    pub entry-passed : Passed (es, ([], ([], tt))) bs → marked (en first) bs ≡ true → length es < max_entries → body (en first) FieldOutOfRange (entry_fits h) bs ≡ more x r → Passed (es ++ x ∷ [], ([], ([], tt))) r
    unfolding put_table put_rows
    entry-passed p m l b =
        let o = body-only (en first) (lawful-en first) FieldOutOfRange (entry_fits h) bs x r (rest-is _ bs p) m b in
        let g : put_rows (en first) (es ++ x ∷ []) ++ [] ≡ (put_rows (en first) es ++ []) ++ put_row (en first) x =
        append-nil _ ∙ rows_more (en first) es x ∙ ap (λ (k : List ℕ). k ++ put_row (en first) x) (sym (append-nil (put_rows (en first) es))) in
        let f = further (es, ([], ([], tt))) (es ++ x ∷ [], ([], ([], tt))) bs r (put_row (en first) x) p o.0 g (omega (arith, entry-size h x o.2, snoc-length es x)) in
        record { split = f.0; long = f.1; entries = fine_more (en first) (entry_fits h) max_entries es x p.entries o.1 o.2 l; backpointers = p.backpointers; records = p.records }

  module _ (es : List Entry) (ks : List Backpointer) (bs r : List ℕ) (x : Backpointer) where
    pub backpointer-passed : Passed (es, (ks, ([], tt))) bs → marked (bp first) bs ≡ true → length ks < max_backpointers → body (bp first) FieldOutOfRange (backpointer_fits h) bs ≡ more x r
        → Passed (es, (ks ++ x ∷ [], ([], tt))) r
    unfolding put_table put_rows
    backpointer-passed p m l b =
        let o = body-only (bp first) (lawful-bp first) FieldOutOfRange (backpointer_fits h) bs x r (rest-is _ bs p) m b in
        let E = put_rows (en first) es in
        let K = put_rows (bp first) ks in
        let g : E ++ (put_rows (bp first) (ks ++ x ∷ []) ++ []) ≡ (E ++ (K ++ [])) ++ put_row (bp first) x =
        rw (append-nil (put_rows (bp first) (ks ++ x ∷ [])), append-nil K, rows_more (bp first) ks x) (sym (append_assoc E K (put_row (bp first) x))) in
        let f = further (es, (ks, ([], tt))) (es, (ks ++ x ∷ [], ([], tt))) bs r (put_row (bp first) x) p o.0 g (omega (arith, backpointer-size h x o.2, snoc-length ks x)) in
        record { split = f.0; long = f.1; entries = p.entries; backpointers = fine_more (bp first) (backpointer_fits h) max_backpointers ks x p.backpointers o.1 o.2 l; records = p.records }

  module _ (es : List Entry) (ks : List Backpointer) (rs : List Record) (bs r : List ℕ) (x : Record) where
    pub record-passed : Passed (es, (ks, (rs, tt))) bs → marked (lg first) bs ≡ true → length rs < max_records → body (lg first) FieldOutOfRange (record_fits h) bs ≡ more x r → Passed (es, (ks, (rs ++ x ∷ [], tt))) r
    unfolding put_table put_rows
    record-passed p m l b =
        let o = body-only (lg first) (lawful-lg first) FieldOutOfRange (record_fits h) bs x r (rest-is _ bs p) m b in
        let E = put_rows (en first) es in
        let K = put_rows (bp first) ks in
        let L = put_rows (lg first) rs in
        let g : E ++ (K ++ (put_rows (lg first) (rs ++ x ∷ []) ++ [])) ≡ (E ++ (K ++ (L ++ []))) ++ put_row (lg first) x =
        rw (append-nil (put_rows (lg first) (rs ++ x ∷ [])), append-nil L, rows_more (lg first) rs x, append_assoc E (K ++ L) (put_row (lg first) x), append_assoc K L (put_row (lg first) x)) refl in
        let f = further (es, (ks, (rs, tt))) (es, (ks, (rs ++ x ∷ [], tt))) bs r (put_row (lg first) x) p o.0 g (omega (arith, record-size h x o.2, snoc-length rs x)) in
        record { split = f.0; long = f.1; entries = p.entries; backpointers = p.backpointers; records = fine_more (lg first) (record_fits h) max_records rs x p.records o.1 o.2 l }
