-- The fields of a record at a place, and the tests of them: a law for each way through the code.
use mathlib.Core.Bool.{Bool}
use mathlib.Core.List.{List, append-nil}
use mathlib.Core.Path.{◌≡◌}
use Prim.Native.Nat.{◌+◌, ◌-◌, ◌≤◌, ℕ}
use native.Mathlib.Omega.{arith}
use lib.ListN.{drop, get_or, length, length-drop, take}
use lib.Seq.{drop-drop, length-take-le}
use Rattle.lists.specs.Lists.{pad}
use Rattle.names.specs.Names.{name_bytes}
use Rattle.names.specs.Text.{bytes}
use Rattle.names.specs.declared.Name.{Name}
use Rattle.protocol.specs.declared.Kind.{Kind}
use Rattle.std.specs.Prelude.{Some, None}
use Rattle.lists.proofs.Tests.{by_test}
use Rattle.picture.specs.Answers.{item_of}
use Rattle.picture.specs.declared.Item.{Item}
use Rattle.decoding.specs.Found.{kind_at}
use Rattle.protocol.specs.declared.Stage.TheVariants.{Ready}
use Rattle.codec.specs.Codec.{after, always, bad, both, byte, get4, got, long, run, then, those, via}
use Rattle.picture.specs.Picture.{bp, ed, en, hd, lg, first, is_kind, item_form, kind_of, letter_d, letter_e, letter_h, name_form}
use Rattle.picture.specs.Rows.{begins, marked}
use Rattle.codec.proofs.Gets.{get1-at}
use Rattle.codec.proofs.Sizes.{Short, run_at, short-via, sized-both, sized-byte, sized-long, sized-word}
use Rattle.picture.specs.Kinds.{sized-item}

-- ---- how long

pub short-hd : Short (hd first).form 6
unfolding hd
short-hd = short-via _ _ always (both byte (both byte long)) 6 (sized-both byte _ 1 5 sized-byte (sized-both byte long 1 4 sized-byte sized-long)).short

pub short-ed : Short ed.form 2
unfolding ed
short-ed = sized-word.short

-- ---- at a place

pub name-at : (s : List ℕ) (at : ℕ) (bytes : List ℕ) → at + 9 ≤ length s → bytes ≡ take name_bytes (drop (at + 1) s) → (name_form first).get (drop at s) ≡ got (record { len = get_or s at 0; bytes = bytes }) (drop (at + 9) s)
unfolding name_form via then byte run after pad
name-at s at bytes h e =
    let d = drop (at + 1) s in
    let m : name_bytes ≤ length d = omega (arith, length-drop (at + 1) s) in
    let l : length (take name_bytes d) ≡ name_bytes = length-take-le name_bytes d m in
    let z : name_bytes - length (take name_bytes d) ≡ 0 = omega (arith, l) in
    let g : at + 1 + name_bytes ≡ at + 9 = omega arith in
    rw (get1-at s at (omega arith), run_at name_bytes d m, e, drop-drop name_bytes (at + 1) s, g, z, append-nil (take name_bytes d))

pub item-at : (s : List ℕ) (at : ℕ) (n : Name) (k : ℕ) → at + 16 ≤ length s → (name_form first).get (drop (at + 3) s) ≡ got n (drop (at + 3 + 9) s) → get4 (drop (at + 12) s) ≡ got k (drop (at + 12 + 4) s)
    → (item_form first).get (drop at s) ≡ got (get_or s at 0, (get_or s (at + 1) 0, (get_or s (at + 2) 0, (n, k)))) (drop (at + 16) s)
unfolding item_form then byte long after
item-at s at n k h p q =
    let a : at + 1 + 1 ≡ at + 2 = omega arith in
    let b : at + 2 + 1 ≡ at + 3 = omega arith in
    let c : at + 3 + 9 ≡ at + 12 = omega arith in
    let d : at + 12 + 4 ≡ at + 16 = omega arith in
    rw (get1-at s at (omega arith), get1-at s (at + 1) (omega arith), a, get1-at s (at + 2) (omega arith), b, p, c, q, d)

pub ruleset fields = (name-at, item-at)

-- ---- the header, and the records of each kind, from their fields

pub head-fields : (s : List ℕ) (k : ℕ) → 8 ≤ length s → get4 (drop 4 s) ≡ got k (drop 8 s)
    → (hd first).form.get (drop 2 s) ≡ got (record { partition = get_or s 2 0; count = get_or s 3 0; last = k }) (drop 8 s)
unfolding hd via then byte long after
head-fields s k h e = rw (get1-at s 2 (omega arith), get1-at s 3 (omega arith), e)

module _ (s : List ℕ) (i : Item) where
  pub entry-fields : (item_form first).get (drop 2 s) ≡ got (item_of i) (drop 18 s) → (en first).form.get (drop 2 s) ≡ got (record { directory = i.a; partition = i.b; object = i.c; name = i.name; number = i.number }) (drop 18 s)
  unfolding en via after
  entry-fields e = rw e

  pub backpointer-fields : (item_form first).get (drop 2 s) ≡ got (item_of i) (drop 18 s) → (bp first).form.get (drop 2 s) ≡ got (record { object = i.a; parent = i.b; directory = i.c; name = i.name; number = i.number }) (drop 18 s)
  unfolding bp via after
  backpointer-fields e = rw e

  pub record-fields : (j : Kind) → 19 ≤ length s → kind_at (get_or s 2 0) ≡ Some j → (item_form first).get (drop 3 s) ≡ got (item_of i) (drop 19 s)
      → (lg first).form.get (drop 2 s) ≡ got (record { kind = j; directory = i.a; name = i.name; partition = i.b; object = i.c; number = i.number; stage = Ready }) (drop 19 s)
  unfolding lg via those then byte after
  record-fields j h p e =
      let k = get_or s 2 0 in
      by_test (is_kind k)
      (λ t. let q : kind_of k ≡ j = some-same (rw t at p) in rw (get1-at s 2 (omega arith), e, t, q))
      (λ f. let q : None ≡ Some j = rw f at p in cc)
    where
      some-same : {x y : Kind} → Some x ≡ Some y → x ≡ y
      some-same e = cc

-- a record whose kind is none is bad, whatever its other fields
pub record-none : (s : List ℕ) → 19 ≤ length s → kind_at (get_or s 2 0) ≡ None → (lg first).form.get (drop 2 s) ≡ bad
unfolding lg via those then byte after
record-none s h p =
    let k = get_or s 2 0 in
    let w = sized-item.full (drop 3 s) (omega (arith, length-drop 3 s)) in
    by_test (is_kind k)
    (λ t. let q : Some (kind_of k) ≡ None = rw t at p in cc)
    (λ f. rw (get1-at s 2 (omega arith), w.1) (rw f))

-- ---- the marks

module _ (s : List ℕ) (b : Bool) where
  pub mark-hd : b ≡ begins letter_h letter_d s → b ≡ marked (hd first) s
  unfolding hd
  mark-hd e = e

  pub mark-ed : b ≡ begins letter_e letter_d s → b ≡ marked ed s
  unfolding ed
  mark-ed e = e

pub ruleset forms = (entry-fields, backpointer-fields, record-fields)
