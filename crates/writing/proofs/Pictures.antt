-- A whole picture put into lent bytes: what the calls lay, one behind another.
use mathlib.Core.List.{List, ◌++◌, append_assoc, append-nil}
use mathlib.Core.Path.{◌∙◌, ◌≡◌, ap, sym}
use Prim.Native.Nat.{◌*◌, ◌+◌, ◌≤◌, ℕ}
use native.Mathlib.Omega.{arith}
use lib.ListN.{length, length-append}
use lib.Seq.{length-take-le}
use Rattle.tables.specs.View.{Ranged, SizedPartition, backpointers_of, entries_of, records_of}
use Rattle.tables.specs.declared.Partition.{Partition}
use Rattle.codec.specs.Over.{over}
use Rattle.picture.specs.Answers.{PutAll, items_in}
use Rattle.picture.specs.Picture.{bp, ed, en, hd, lg, first, head_size, put, sections}
use Rattle.picture.specs.Rows.{counted, put_row, put_rows, put_table}
use Rattle.picture.specs.declared.Head.{Head}
use Rattle.codec.proofs.Puts.{laid}
use Rattle.picture.proofs.Lengths.{close-length, head-length, sized}

-- how many of each kind a partition within its bounds has
module _ (x : Partition) (z : SizedPartition x) (g : Ranged x) where
  pub entry-count : length (entries_of x.entries) ≡ x.entries.count
  entry-count = length-take-le x.entries.count x.entries.items (omega (arith, g.entries, z.entries))

  pub backpointer-count : length (backpointers_of x.backpointers) ≡ x.backpointers.count
  backpointer-count = length-take-le x.backpointers.count x.backpointers.items (omega (arith, g.backpointers, z.backpointers))

  pub record-count : length (records_of x.records) ≡ x.records.count
  record-count = length-take-le x.records.count x.records.items (omega (arith, g.records, z.records))

  pub all-counted : counted (sections first) (items_in x) ≡ x.entries.count + x.backpointers.count + x.records.count
  unfolding counted
  all-counted = omega (arith, entry-count, backpointer-count, record-count)

-- what is laid behind what was laid at the start
laid_next : (l b1 b2 : List ℕ) (k : ℕ) (xs ys : List ℕ) → b1 ≡ over l 0 xs → b2 ≡ over b1 k ys → length xs ≡ k → k + length ys ≤ length l → b2 ≡ over l 0 (xs ++ ys)
laid_next l b1 b2 k xs ys p q e h =
    let z : k ≡ 0 + k = omega arith in
    laid l b1 b2 0 k xs ys p (q ∙ ap (λ (j : ℕ). over b1 j ys) z) e (omega arith)

-- the five parts of a picture with i entries, j back-pointers and k records
five-laid : (l b1 b2 b3 b4 b5 H E B L D : List ℕ) (i j k a b c : ℕ) → b1 ≡ over l 0 H → length H ≡ head_size
    → a ≡ head_size + 18 * i → length E ≡ 18 * i → b2 ≡ over b1 head_size E
    → b ≡ a + 18 * j → length B ≡ 18 * j → b3 ≡ over b2 a B
    → c ≡ b + 19 * k → length L ≡ 19 * k → b4 ≡ over b3 b L
    → b5 ≡ over b4 c D → length D ≡ 4 → sized i j k ≤ length l → b5 ≡ over l 0 (H ++ ((E ++ (B ++ L)) ++ D))
five-laid l b1 b2 b3 b4 b5 H E B L D i j k a b c p h ea el e fb fl f gc gl g d dl r =
    let q2 = laid_next l b1 b2 head_size H E p e h (omega arith) in
    let m2 : length (H ++ E) ≡ a = length-append H E ∙ omega arith in
    let q3 = laid_next l b2 b3 a (H ++ E) B q2 f m2 (omega arith) in
    let m3 : length ((H ++ E) ++ B) ≡ b = length-append (H ++ E) B ∙ omega arith in
    let q4 = laid_next l b3 b4 b ((H ++ E) ++ B) L q3 g m3 (omega arith) in
    let m4 : length (((H ++ E) ++ B) ++ L) ≡ c = length-append ((H ++ E) ++ B) L ∙ omega arith in
    let q5 = laid_next l b4 b5 c (((H ++ E) ++ B) ++ L) D q4 d m4 (omega arith) in
    q5 ∙ ap (over l 0) (simp append_assoc)

pub picture-laid : (x : Partition) → SizedPartition x → Ranged x → (h : Head) (l b1 b2 b3 b4 b5 : List ℕ) (a b c n : ℕ) → b1 ≡ over l 0 (put_row (hd first) h)
    → PutAll (en first) 18 b1 head_size (entries_of x.entries) a b2
    → PutAll (bp first) 18 b2 a (backpointers_of x.backpointers) b b3
    → PutAll (lg first) 19 b3 b (records_of x.records) c b4
    → n ≡ x.entries.count + x.backpointers.count + x.records.count → b5 ≡ over b4 c (put_row ed n)
    → sized x.entries.count x.backpointers.count x.records.count ≤ length l → b5 ≡ over l 0 (put first h (items_in x))
unfolding put put_table
picture-laid x z g h l b1 b2 b3 b4 b5 a b c n p e f o m d r =
    let k = counted (sections first) (items_in x) in
    let s : n ≡ k = m ∙ sym (all-counted x z g) in
    let E = put_rows (en first) (entries_of x.entries) in
    let B = put_rows (bp first) (backpointers_of x.backpointers) in
    let L = put_rows (lg first) (records_of x.records) in
    let i = ap (λ (m : ℕ). 18 * m) (entry-count x z g) in
    let j = ap (λ (m : ℕ). 18 * m) (backpointer-count x z g) in
    let o₂ = ap (λ (m : ℕ). 19 * m) (record-count x z g) in
    five-laid l b1 b2 b3 b4 b5 (put_row (hd first) h) E B L (put_row ed k) x.entries.count x.backpointers.count x.records.count a b c p (head-length h)
    (e.place ∙ ap (λ (m : ℕ). head_size + m) i) (e.long ∙ i) e.bytes (f.place ∙ ap (λ (m : ℕ). a + m) j) (f.long ∙ j) f.bytes (o.place ∙ ap (λ (m : ℕ). b + m) o₂) (o.long ∙ o₂) o.bytes
    (d ∙ ap (λ (m : ℕ). over b4 c (put_row ed m)) s) (close-length k) r
    ∙ ap (λ (q : List ℕ). over l 0 (put_row (hd first) h ++ ((E ++ (B ++ q)) ++ put_row ed k))) (sym (append-nil L))
