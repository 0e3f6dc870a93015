-- The loop that puts the records of a kind, one behind another, over any row: a law for its start, its turn and its end.
use mathlib.Core.List.{List, ◌++◌}
use mathlib.Core.Path.{◌∙◌, ◌≡◌, ap, refl, sym}
use Prim.Native.Nat.{◌*◌, ◌+◌, ◌<◌, ◌≤◌, ℕ}
use native.Mathlib.Nat.{mul-le-mul_left, mul-suc}
use native.Mathlib.Numerals.{add-one}
use native.Mathlib.Omega.{arith}
use lib.ListN.{get_or, length, length-append, take}
use lib.Seq.{take-suc}
use Rattle.codec.specs.Over.{over}
use Rattle.picture.specs.Answers.{Put}
use Rattle.picture.specs.Rows.{Row, next, put_row, put_rows}
use Rattle.codec.proofs.Puts.{laid, over_none}
use Rattle.picture.proofs.Rounds.{rows_more}

rows_next : {A : Type 0} (w : Row A) (xs : List A) (i : ℕ) (d : A) → i < length xs → put_rows w (take (i + 1) xs) ≡ put_rows w (take i xs) ++ put_row w (get_or xs i d)
rows_next w xs i d h = rw (add-one i, take-suc xs i d h) (rows_more w (take i xs) (get_or xs i d))

module _ {A : Type 0} (w : Row A) (size : ℕ) (l : List ℕ) (from : ℕ) (xs : List A) where
  -- the first i of them are put, and the room is as long as it was
  pub record Laying (buf : List ℕ) (at i : ℕ) : Type 0 where
    pub room : length buf ≡ length l
    pub place : at ≡ from + size * i
    pub long : length (put_rows w (take i xs)) ≡ size * i
    pub bytes : buf ≡ over l from (put_rows w (take i xs))

  pub lay-start : Laying l from 0
  unfolding put_rows
  lay-start =
      let e : size * 0 ≡ 0 = omega arith in
      record { room = refl; place = rw e (omega arith); long = rw e; bytes = over_none l from }

  module _ (buf : List ℕ) (at i : ℕ) (inv : Laying buf at i) where
    module _ (h : i < length xs) (f : from + size * length xs ≤ length l) where
      grown : size * (i + 1) ≡ size * i + size
      grown = rw (add-one i) (mul-suc size i)

      within : size * (i + 1) ≤ size * length xs
      within = mul-le-mul_left size (omega arith)

      pub lay-turn : (x : A) → x ≡ get_or xs i x → (next : ℕ) (b : List ℕ) → length b ≡ length buf → Put w size buf at x next b → Laying b next (i + 1)
      lay-turn x same next b m q =
          let r : put_rows w (take (i + 1) xs) ≡ put_rows w (take i xs) ++ put_row w x = rows_next w xs i x h ∙ ap (λ (y : A). put_rows w (take i xs) ++ put_row w y) (sym same) in
          let e : length (put_rows w (take (i + 1) xs)) ≡ size * (i + 1) = ap length r ∙ length-append (put_rows w (take i xs)) (put_row w x) ∙ omega (arith, inv.long, q.long, grown) in
          let b : b ≡ over buf (from + size * i) (put_row w x) = q.bytes ∙ ap (λ (a : ℕ). over buf a (put_row w x)) inv.place in
          let o = laid l buf _ from (size * i) (put_rows w (take i xs)) (put_row w x) inv.bytes b inv.long (omega (arith, q.long, inv.room, within, grown)) in
          record { room = m ∙ inv.room; place = omega (arith, q.place, inv.place, grown); long = e; bytes = rw r o }
