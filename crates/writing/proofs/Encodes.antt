-- Putting one record: what the calls lay, one behind another.
use mathlib.Core.List.{List, [], ◌∷◌}
use mathlib.Core.Path.{◌∙◌, ◌≡◌, ap, refl}
use Prim.Native.Nat.{◌+◌, ◌≤◌, ℕ}
use native.Mathlib.Omega.{arith}
use lib.ListN.{length}
use Rattle.std.specs.Int.{to_be_bytes, w16, w32}
use Rattle.names.specs.declared.Name.{Name}
use Rattle.protocol.specs.Elements.{kind_number}
use Rattle.protocol.specs.declared.Backpointer.{Backpointer}
use Rattle.protocol.specs.declared.Entry.{Entry}
use Rattle.protocol.specs.declared.Record.{Record}
use Rattle.codec.specs.Codec.{be2, be4, byte, long, then, those, via, word}
use Rattle.codec.specs.Over.{over}
use Rattle.picture.specs.Answers.{Put}
use Rattle.picture.specs.Picture.{bp, ed, en, hd, lg, first, item_form, letter_b, letter_d, letter_e, letter_g, letter_h, letter_l, letter_n, letter_p, name_form}
use Rattle.picture.specs.Rows.{put_row}
use Rattle.picture.specs.declared.Head.{Head}
use Rattle.picture.specs.declared.Item.{Item}
use Rattle.lists.proofs.Arrays.{length-of}
use Rattle.codec.proofs.Puts.{laid}
use Rattle.picture.proofs.Lengths.{Eight, backpointer-length, entry_length, item-length, name-length, name-put, record-length}
use mir.Val.{Val}
use denote.Laws.{Is}
use Rattle.names.specs.contracts.Name as name
use Rattle.protocol.specs.contracts.Backpointer as backpointer
use Rattle.protocol.specs.contracts.Entry as entry
use Rattle.protocol.specs.contracts.Record as log
use Rattle.picture.specs.contracts.Item as item

-- what a value of a declared type tells of its name
pub name-eight : (s : Name) (vs : List Val) → Is name.the_row s vs → Eight s
name-eight s vs h = search length-of

pub item-eight : (i : Item) (vs : List Val) → Is item.the_row i vs → Eight i.name
item-eight i vs h = search length-of

pub entry-eight : (e : Entry) (vs : List Val) → Is entry.the_row e vs → Eight e.name
entry-eight e vs h = search length-of

pub backpointer-eight : (b : Backpointer) (vs : List Val) → Is backpointer.the_row b vs → Eight b.name
backpointer-eight b vs h = search length-of

pub record-eight : (r : Record) (vs : List Val) → Is log.the_row r vs → Eight r.name
record-eight r vs h = search length-of

-- the library's bytes of a number
be2-is : (n : ℕ) → to_be_bytes w16 n ≡ be2 n
unfolding be2
be2-is n = refl

be4-is : (n : ℕ) → to_be_bytes w32 n ≡ be4 n
unfolding be4
be4-is n = refl

pub put-name-2 : (l b1 b2 : List ℕ) (at : ℕ) (n : Name) → at + 9 ≤ length l → Eight n → b1 ≡ over l at (n.len ∷ []) → b2 ≡ over b1 (at + 1) n.bytes → b2 ≡ over l at ((name_form first).put n)
put-name-2 l b1 b2 at n h e p q = rw (name-put n e) (laid l b1 b2 at 1 (n.len ∷ []) n.bytes p q refl (omega arith))

pub put-item-3 : (l b1 b2 b3 : List ℕ) (at x y z k : ℕ) (n : Name) → at + 16 ≤ length l → Eight n → b1 ≡ over l at (x ∷ y ∷ z ∷ [])
    → b2 ≡ over b1 (at + 3) ((name_form first).put n) → b3 ≡ over b2 (at + 12) (to_be_bytes w32 k) → b3 ≡ over l at ((item_form first).put (x, (y, (z, (n, k)))))
unfolding item_form then byte long be4
put-item-3 l b1 b2 b3 at x y z k n h e p q r =
    let m = name-length n e in
    let o = laid l b1 b2 at 3 (x ∷ y ∷ z ∷ []) ((name_form first).put n) p q refl (omega arith) in
    laid l b2 b3 at 12 (x ∷ y ∷ z ∷ (name_form first).put n) (be4 k) o (r ∙ ap (over b2 (at + 12)) (be4-is k)) (omega arith) (omega arith)

pub put-head-3 : (l b1 b2 b3 : List ℕ) (h : Head) → 8 ≤ length l → b1 ≡ over l 0 (letter_h ∷ letter_d ∷ []) → b2 ≡ over b1 2 (h.partition ∷ h.count ∷ []) → b3 ≡ over b2 4 (to_be_bytes w32 h.last) → b3 ≡ over l 0 (put_row (hd first) h)
unfolding put_row hd via then byte long be4
put-head-3 l b1 b2 b3 h g p1 p2 p3 =
    let q2 = laid l b1 b2 0 2 (letter_h ∷ letter_d ∷ []) (h.partition ∷ h.count ∷ []) p1 p2 refl (omega arith) in
    laid l b2 b3 0 4 (letter_h ∷ letter_d ∷ h.partition ∷ h.count ∷ []) (be4 h.last) q2 (p3 ∙ ap (over b2 4) (be4-is h.last)) refl (omega arith)

pub put-close-2 : (l b1 b2 : List ℕ) (at n : ℕ) → at + 4 ≤ length l → b1 ≡ over l at (letter_e ∷ letter_d ∷ []) → b2 ≡ over b1 (at + 2) (to_be_bytes w16 n) → b2 ≡ over l at (put_row ed n)
unfolding put_row ed word be2
put-close-2 l b1 b2 at n h p q = laid l b1 b2 at 2 (letter_e ∷ letter_d ∷ []) (be2 n) p (q ∙ ap (over b1 (at + 2)) (be2-is n)) refl (omega arith)

module _ (l b1 b2 : List ℕ) (at : ℕ) where
  pub put-entry-2 : (e : Entry) → at + 18 ≤ length l → Eight e.name → b1 ≡ over l at (letter_e ∷ letter_n ∷ [])
      → b2 ≡ over b1 (at + 2) ((item_form first).put (e.directory, (e.partition, (e.object, (e.name, e.number))))) → Put (en first) 18 l at e (at + 18) b2
  unfolding put_row en via
  put-entry-2 e h m p q =
      let i = item-length e.directory e.partition e.object e.name e.number m in
      record { place = refl; long = entry_length e m; bytes = laid l b1 b2 at 2 (letter_e ∷ letter_n ∷ []) _ p q refl (omega arith) }

  pub put-backpointer-2 : (b : Backpointer) → at + 18 ≤ length l → Eight b.name → b1 ≡ over l at (letter_b ∷ letter_p ∷ [])
      → b2 ≡ over b1 (at + 2) ((item_form first).put (b.object, (b.parent, (b.directory, (b.name, b.number))))) → Put (bp first) 18 l at b (at + 18) b2
  unfolding put_row bp via
  put-backpointer-2 b h m p q =
      let i = item-length b.object b.parent b.directory b.name b.number m in
      record { place = refl; long = backpointer-length b m; bytes = laid l b1 b2 at 2 (letter_b ∷ letter_p ∷ []) _ p q refl (omega arith) }

  pub put-record-3 : (b3 : List ℕ) (r : Record) (k : ℕ) → at + 19 ≤ length l → Eight r.name → k ≡ kind_number r.kind → b1 ≡ over l at (letter_l ∷ letter_g ∷ []) → b2 ≡ over b1 (at + 2) (k ∷ [])
      → b3 ≡ over b2 (at + 3) ((item_form first).put (r.directory, (r.partition, (r.object, (r.name, r.number))))) → Put (lg first) 19 l at r (at + 19) b3
  unfolding put_row lg via those then byte
  put-record-3 b3 r k h m j p q o =
      let i = item-length r.directory r.partition r.object r.name r.number m in
      let q2 = laid l b1 b2 at 2 (letter_l ∷ letter_g ∷ []) (k ∷ []) p q refl (omega arith) in
      let q3 = laid l b2 b3 at 3 (letter_l ∷ letter_g ∷ k ∷ []) _ q2 o refl (omega arith) in
      record { place = refl; long = record-length r m; bytes = rw j at q3 }

pub ruleset encodes = (put-name-2, put-item-3, put-head-3, put-close-2, put-entry-2, put-backpointer-2, put-record-3, name-eight, item-eight, entry-eight, backpointer-eight, record-eight)
