-- How long each kind of record and a whole picture is, in the first edition.
use mathlib.Core.Bool.{true}
use mathlib.Core.List.{List, [], ◌++◌, ◌∷◌, append-nil, map}
use mathlib.Core.Path.{◌∙◌, ◌≡◌, ap, refl}
use Prim.Native.Nat.{◌*◌, ◌+◌, ◌≤◌, ℕ}
use native.Mathlib.Nat.{mul-suc}
use native.Mathlib.Omega.{arith}
use lib.Dec.{eqb}
use lib.ListN.{length, length-append, length-map}
use lib.Seq.{take_all}
use borrow.Author.Tests.{eq-eqb, eqb-true, leb-true, ltb-true}
use Rattle.lists.specs.Lists.{all}
use Rattle.names.specs.Names.{good_name, name_bytes}
use Rattle.names.specs.declared.Name.{Name}
use Rattle.protocol.specs.Bounds.{max_backpointers, max_entries, max_records}
use Rattle.protocol.specs.Order.{o1, in_order, in_range, partition_in_range}
use Rattle.protocol.specs.Tables.{Model, Partition, in_stage, is_partition, partition}
use Rattle.protocol.specs.declared.Backpointer.{Backpointer}
use Rattle.protocol.specs.declared.Entry.{Entry}
use Rattle.protocol.specs.declared.Record.{Record}
use Rattle.protocol.specs.declared.Stage.TheVariants.{Ready}
use Rattle.codec.specs.Codec.{be2, be4, byte, long, run, then, those, via, word}
use Rattle.picture.specs.Picture.{bp, ed, en, hd, lg, first, head_of, item_form, largest_picture, name_form, picture_of, put, sections, write}
use Rattle.picture.specs.Rows.{Row, counted, put_row, put_rows, put_table}
use Rattle.picture.specs.declared.Head.{Head}
use Rattle.lists.proofs.Alls.{all-image}
use Rattle.lists.proofs.Members.{all-get, all_true}
use Rattle.lists.proofs.Tests.{and_left, and_right, below_at, every-at}

-- a name's eight bytes
abbrev pub Eight : Name → Type 0
Eight s = length s.bytes ≡ name_bytes

pub name-put : (s : Name) → Eight s → (name_form first).put s ≡ s.len ∷ s.bytes
unfolding name_form via then byte run
name-put s e = ap (λ (l : List ℕ). s.len ∷ l) (take_all name_bytes s.bytes (omega arith))

pub name-length : (s : Name) → Eight s → length ((name_form first).put s) ≡ 9
name-length s e = rw (name-put s e) (omega arith)

pub item-length : (a b c : ℕ) (s : Name) (n : ℕ) → Eight s → length ((item_form first).put (a, (b, (c, (s, n))))) ≡ 16
unfolding item_form then byte long be4
item-length a b c s n e = omega (arith, length-append ((name_form first).put s) (be4 n), name-length s e)

pub head-length : (h : Head) → length (put_row (hd first) h) ≡ 8
unfolding put_row hd via then byte long be4
head-length h = refl

pub entry_length : (e : Entry) → Eight e.name → length (put_row (en first) e) ≡ 18
unfolding put_row en via
entry_length e m = let i = item-length e.directory e.partition e.object e.name e.number m in omega arith

pub backpointer-length : (b : Backpointer) → Eight b.name → length (put_row (bp first) b) ≡ 18
unfolding put_row bp via
backpointer-length b m = let i = item-length b.object b.parent b.directory b.name b.number m in omega arith

pub record-length : (r : Record) → Eight r.name → length (put_row (lg first) r) ≡ 19
unfolding put_row lg via those then byte
record-length r m = let i = item-length r.directory r.partition r.object r.name r.number m in omega arith

pub close-length : (n : ℕ) → length (put_row ed n) ≡ 4
unfolding put_row ed word be2
close-length n = refl

pub rows-length : {A : Type 0} (w : Row A) (size : ℕ) (xs : List A) → all (λ x. eqb (length (put_row w x)) size) xs ≡ true → length (put_rows w xs) ≡ size * length xs
unfolding put_rows all
rows-length w size [] e = omega arith
rows-length w size (x ∷ xs) e =
    let a : length (put_row w x) ≡ size = eqb-true _ _ (and_left (eqb (length (put_row w x)) size) _ e) in
    let b = rows-length w size xs (and_right (eqb (length (put_row w x)) size) _ e) in
    length-append (put_row w x) (put_rows w xs) ∙ omega (arith, a, b, mul-suc size (length xs))

-- how long a picture with so many entries, back-pointers and records is
abbrev pub sized : ℕ → ℕ → ℕ → ℕ
sized a b c = 8 + (18 * a + (18 * b + (19 * c + 4)))

put-length : (h : Head) (es : List Entry) (bs : List Backpointer) (rs : List Record) → length (put_rows (en first) es) ≡ 18 * length es → length (put_rows (bp first) bs) ≡ 18 * length bs → length (put_rows (lg first) rs) ≡ 19 * length rs
    → length (put first h (es, (bs, (rs, tt)))) ≡ sized (length es) (length bs) (length rs)
unfolding put put_table
put-length h es bs rs a b c =
    let e = put_rows (en first) es in
    let f = put_rows (bp first) bs in
    let g = put_rows (lg first) rs in
    let z = put_row ed (counted (sections first) (es, (bs, (rs, tt)))) in
    let k : length (g ++ []) ≡ length g = ap length (append-nil g) in
    omega (arith, a, b, c, k, head-length h, close-length (counted (sections first) (es, (bs, (rs, tt)))), length-append (put_row (hd first) h) ((e ++ (f ++ (g ++ []))) ++ z), length-append (e ++ (f ++ (g ++ []))) z, length-append e (f ++ (g ++ [])), length-append f (g ++ []))

-- a good name has them
pub good-eight : (s : Name) → good_name s ≡ true → Eight s
unfolding good_name
good-eight s g = eqb-true _ _ (every-at _ g 2)

module _ (m : Model) (p : ℕ) (o : in_order m ≡ true) (i : is_partition m p ≡ true) where
  abbrev x : Partition
  x = partition m p

  ranges : partition_in_range m x ≡ true
  unfolding in_order o1
  ranges = below_at _ _ (every-at _ (every-at _ o 0) 3) p (ltb-true _ _ i)

  -- header and close, and so many bytes for each entry, back-pointer and record
  pub picture-length : length (write first (picture_of m p)) ≡ sized (length x.entries) (length x.backpointers) (length x.records)
  unfolding write picture_of partition_in_range
  picture-length =
      let es = rows-length (en first) 18 x.entries (all_true _ x.entries (λ e j. eq-eqb _ _ (entry_length e (good-eight e.name (and_right (in_range m e.directory e.partition e.object) _ (all-get _ x.entries (every-at _ ranges 4) e j)))))) in
      let bs = rows-length (bp first) 18 x.backpointers (all_true _ x.backpointers (λ b j. eq-eqb _ _ (backpointer-length b (good-eight b.name (and_right (in_range m b.directory b.parent b.object) _ (all-get _ x.backpointers (every-at _ ranges 5) b j)))))) in
      let rs =
      rows-length (lg first) 19 (map (in_stage Ready) x.records)
      (all-image _ (in_stage Ready) x.records
      ∙ all_true _ x.records (λ r j. eq-eqb _ _ (record-length (in_stage Ready r) (good-eight r.name (and_left (good_name r.name) _ (and_right (in_range m r.directory r.partition r.object) _ (all-get _ x.records (every-at _ ranges 6) r j))))))) in
      put-length (head_of (picture_of m p)) x.entries x.backpointers (map (in_stage Ready) x.records) es bs rs ∙ ap (sized (length x.entries) (length x.backpointers)) (length-map x.records (in_stage Ready))

  pub picture-most : length (write first (picture_of m p)) ≤ largest_picture
  unfolding partition_in_range
  picture-most =
      let a : length x.entries ≤ max_entries = leb-true _ _ (every-at _ ranges 1) in
      let b : length x.backpointers ≤ max_backpointers = leb-true _ _ (every-at _ ranges 2) in
      let c : length x.records ≤ max_records = leb-true _ _ (every-at _ ranges 3) in
      omega (arith, picture-length)

-- and the tables at every bound have a picture of that length
pub largest-sized : sized max_entries max_backpointers max_records ≡ largest_picture
largest-sized = refl
