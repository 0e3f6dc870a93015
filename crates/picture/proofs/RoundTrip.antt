-- What is written is read back, and no other bytes are read: of every edition at once.
use mathlib.Core.Bool.{Bool, not, true}
use mathlib.Core.List.{List, [], ◌++◌, ◌∷◌, append-nil}
use mathlib.Core.Path.{◌∙◌, ◌≡◌, ap, refl, sym}
use Prim.Native.Nat.{◌<◌, ◌≤◌, ℕ}
use native.Mathlib.Omega.{arith}
use lib.Dec.{eqb}
use borrow.Author.Tests.{eq-eqb, eqb-true, lt-ltb}
use Rattle.lists.specs.Lists.{all, every}
use Rattle.protocol.specs.Tables.{with_up}
use Rattle.protocol.specs.declared.Refusal.TheVariants.{CountWrong, FieldOutOfRange}
use Rattle.codec.specs.Codec.{is_byte, word}
use Rattle.picture.specs.Picture.{bp, ed, en, Edition, hd, Items, lg, Picture, closing, ended, head_fits, head_of, items_of, picture_from, put, read, read_tables, sections, write}
use Rattle.picture.specs.Rows.{counted, fitting, more, next, one, put_row, put_table, read_table}
use Rattle.picture.specs.declared.Head.{Head}
use Rattle.lists.proofs.Tests.{◌also◌, done, every-at, every_of, not-false}
use Rattle.picture.proofs.Forms.{lawful-bp, lawful-ed, lawful-en, lawful-hd, lawful-lg}
use Rattle.picture.proofs.Rounds.{next_more, one_only, one-reads}
use Rattle.picture.proofs.Tabular.{Lawfuls, counted-most, foreign, marks_apart, rest-bytes, rooms, table-only, table-reads}

lawfuls : (v : Edition) → Lawfuls (sections v)
lawfuls v = (lawful-en v, (lawful-bp v, (lawful-lg v, tt)))

-- no kind takes a record of a later kind for its own
marks : (v : Edition) → marks_apart (sections v) ed ≡ true
unfolding marks_apart foreign en bp lg ed
marks v = refl

-- the counts of a picture whose kinds keep their bounds fit in two bytes
few : (v : Edition) (h : Head) (c : Items v) → fitting (sections v) h c ≡ true → ed.form.fine (counted (sections v) c) ≡ true
unfolding ed word rooms
few v h c f =
    let a : counted (sections v) c ≤ rooms (sections v) = counted-most (sections v) h c f in
    let b : counted (sections v) c < 65536 = omega arith in
    lt-ltb _ _ b

-- ---- what is written is read

closing-reads : (n : ℕ) → ed.form.fine n ≡ true → closing n (put_row ed n ++ []) ≡ more n []
unfolding closing next ended
closing-reads n h = rw (one-reads ed lawful-ed CountWrong (eqb n) n [] h (eq-eqb n n refl))

pub put_reads : (v : Edition) (h : Head) (c : Items v) → (hd v).form.fine h ≡ true → head_fits h ≡ true → fitting (sections v) h c ≡ true → read v (put v h c) ≡ more (picture_from v h c) []
unfolding read read_tables put next
put_reads v h c d e f =
    let n = counted (sections v) c in
    let a = one-reads (hd v) (lawful-hd v) FieldOutOfRange head_fits h (put_table (sections v) c ++ put_row ed n) d e in
    let b = rw (append-nil (put_row ed n)) at (table-reads ed n (sections v) (lawfuls v) (marks v) h c [] f) in
    let g = rw (append-nil (put_row ed n)) at (closing-reads n (few v h c f)) in
    rw a (rw b (rw g))

-- ---- no other bytes

ended-only : (n : ℕ) (q : List ℕ) (m : ℕ) (r : List ℕ) → ended n q ≡ more m r → (q ≡ []) × (r ≡ [])
unfolding ended
ended-only n [] m r e = (refl, cc)
ended-only n (b ∷ q) m r e = let z : ◌≡◌ {A = ℕ} 0 1 = cc in absurd (omega arith)

closing-back : (m n : ℕ) (bs q : List ℕ) → bs ≡ put_row ed n ++ q → q ≡ [] → m ≡ n → bs ≡ put_row ed m
closing-back m n bs q e z i = e ∙ rw (z, append-nil (put_row ed n), i)

closing-only : (n : ℕ) (bs : List ℕ) (m : ℕ) (r : List ℕ) → all is_byte bs ≡ true → closing n bs ≡ more m r → (bs ≡ put_row ed n) × (r ≡ [])
unfolding closing
closing-only n bs m r a e =
    let (k, q, f, g) = next_more (one ed CountWrong (eqb n) bs) _ m r e in
    let w = one_only ed lawful-ed CountWrong (eqb n) bs k q a f in
    let z = ended-only k q m r g in
    (closing-back n k bs q w.0 z.0 (eqb-true n k w.2), z.1)

-- the pictures that have bytes
unfoldable pub showable : Edition → Picture → Bool
showable v x = every ((hd v).form.fine (head_of x) ∷ head_fits (head_of x) ∷ fitting (sections v) (head_of x) (items_of v x) ∷ not x.tables.up ∷ [])

-- header, tables and close put together again: plain variables, one equation for each
assemble : (v : Edition) (h : Head) (c : Items v) (y : Picture) (bs r q : List ℕ) → picture_from v h c ≡ y → bs ≡ put_row (hd v) h ++ r → r ≡ put_table (sections v) c ++ q → q ≡ put_row ed (counted (sections v) c)
    → (hd v).form.fine h ≡ true → head_fits h ≡ true → fitting (sections v) h c ≡ true → (bs ≡ write v y) × (showable v y ≡ true)
unfolding write put showable
assemble v h c y bs r q m a b d e f g = (a ∙ rw (b, d, ← m), rw (← m) (every_of _ (e also f also g also refl also done)))

pub only-written : (v : Edition) (bs : List ℕ) (y : Picture) (r : List ℕ) → all is_byte bs ≡ true → read v bs ≡ more y r → (bs ≡ write v y) × (showable v y ≡ true) × (r ≡ [])
unfolding read read_tables
only-written v bs y r a e =
    let (h, q, f, g) = next_more (one (hd v) FieldOutOfRange head_fits bs) _ y r e in
    let (c, o, i, j) = next_more (read_table (sections v) h q) _ y r g in
    let u = one_only (hd v) (lawful-hd v) FieldOutOfRange head_fits bs h q a f in
    let b = rest-bytes bs (put_row (hd v) h) q a u.0 in
    let w = table-only (sections v) (lawfuls v) h q c o b i in
    let (n, d, k, l) = next_more (closing (counted (sections v) c) o) _ y r j in
    let z = closing-only (counted (sections v) c) o n d (rest-bytes q (put_table (sections v) c) o b w.0) k in
    let m : picture_from v h c ≡ y = cc in
    let t = assemble v h c y bs q o m u.0 w.0 z.0 u.1 u.2 w.1 in
    let x : d ≡ r = cc in
    (t.0, t.1, sym x ∙ z.1)

-- ---- the same of pictures

down : (x : Picture) → not x.tables.up ≡ true → (v : Edition) → picture_from v (head_of x) (items_of v x) ≡ x
down x e v = λ i. record { partition = x.partition; count = x.count; tables = with_up (sym (not-false x.tables.up e) i) x.tables }

pub written-reads : (v : Edition) (x : Picture) → showable v x ≡ true → read v (write v x) ≡ more x []
unfolding write showable
written-reads v x e =
    let t : every ((hd v).form.fine (head_of x) ∷ head_fits (head_of x) ∷ fitting (sections v) (head_of x) (items_of v x) ∷ not x.tables.up ∷ []) ≡ true = e in
    put_reads v (head_of x) (items_of v x) (every-at _ t 0) (every-at _ t 1) (every-at _ t 2) ∙ ap (λ (y : Picture). more y []) (down x (every-at _ t 3) v)
