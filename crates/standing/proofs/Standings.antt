-- What stands at a place: a law for each way through the code.
use mathlib.Core.Bool.{Bool, ◌&&◌, false, true}
use mathlib.Core.List.{List, []}
use mathlib.Core.Path.{◌∙◌, ◌≡◌, ap, refl, sym}
use Prim.Native.Nat.{◌+◌, ◌-◌, ◌<◌, ◌≤◌, ℕ}
use native.Mathlib.Omega.{arith}
use lib.Dec.{eqb, leb}
use lib.ListN.{drop, length, length-drop, take}
use lib.Seq.{length-take-le}
use borrow.Author.Tests.{le-leb, le-ltb, lt-leb, lt-ltb}
use Rattle.lists.proofs.Tests.{by_test}
use Rattle.protocol.specs.Bounds.{max_backpointers, max_entries, max_records}
use Rattle.protocol.specs.declared.Refusal.{Refusal}
use Rattle.protocol.specs.declared.Refusal.TheVariants.{EndsEarly, FieldOutOfRange, MarkNotAllowed}
use Rattle.tables.specs.View.{backpointers_of, entries_of, records_of}
use Rattle.picture.specs.Answers.{Tabled, items_in, within}
use Rattle.picture.specs.Picture.{bp, en, hd, lg, backpointer_fits, closing, entry_fits, first, head_fits, head_size, record_fits, sections}
use Rattle.picture.specs.Rows.{Read, body, fail, marked, more, one, read_table}
use Rattle.picture.specs.Standing.{handed_at, handed_behind, handed_next, handed_under, hands, hands_backpointer, hands_close, hands_entry, hands_head, hands_record, stays}
use Rattle.picture.specs.declared.Handed.{Handed}
use Rattle.picture.specs.declared.Head.{Head}
use Rattle.picture.specs.declared.Part.TheVariants.{Close, Refused}
use Rattle.tables.specs.declared.Partition.{Partition as Stored}

module _ {A : Type 0} (hand : A → Handed) (at : ℕ) (full : Bool) (R : Read A) where
  pub hand-fail : (why : Refusal) → fail why ≡ within full R → stays (Refused why) at ≡ hands hand at full R
  unfolding hands
  hand-fail why = over R
    where
      over : (Q : Read A) → fail why ≡ within full Q → stays (Refused why) at ≡ hands hand at full Q
      over (fail k) e = let l : why ≡ k = cc in ap (λ (w : Refusal). stays (Refused w) at) l
      over (more x r) e =
          by_test full
          (λ f.
          let k : ◌≡◌ {A = Read A} (fail why) (fail FieldOutOfRange) = rw f at e in
          let l : why ≡ FieldOutOfRange = cc in
          rw f (ap (λ (w : Refusal). stays (Refused w) at) l))
          (λ f. let k : fail why ≡ more x r = rw f at e in cc)

  pub hand-good : (x : A) (q : List ℕ) → more x q ≡ within full R → hand x ≡ hands hand at full R
  unfolding hands
  hand-good x q = over R
    where
      over : (Q : Read A) → more x q ≡ within full Q → hand x ≡ hands hand at full Q
      over (fail k) e = cc
      over (more y r) e =
          by_test full
          (λ f. let k : more x q ≡ fail FieldOutOfRange = rw f at e in cc)
          (λ f. let k : more x q ≡ more y r = rw f at e in let l : x ≡ y = cc in rw f (ap hand l))

-- ---- the close

module _ (at n : ℕ) (bs : List ℕ) where
  pub close-hands : more n [] ≡ closing n bs → stays Close at ≡ hands_close at (closing n bs)
  unfolding hands_close
  close-hands e = ap (hands_close at) e

  pub close-stays : (why : Refusal) → fail why ≡ closing n bs → stays (Refused why) at ≡ hands_close at (closing n bs)
  unfolding hands_close
  close-stays why e = ap (hands_close at) e

-- ---- behind what stands before

module _ (at : ℕ) (h : Head) (a b c : ℕ) (bs : List ℕ) (r : Handed) (t : Bool) (m : t ≡ marked (en first) bs) where
  pub next-entry : (t && (eqb b 0 && eqb c 0)) ≡ true → r ≡ hands (hands_entry at) at (leb max_entries a) (body (en first) FieldOutOfRange (entry_fits h) bs) → r ≡ handed_next at h a b c bs
  unfolding handed_next
  next-entry y i = i ∙ rw (← m, y)

  module _ (y : (t && (eqb b 0 && eqb c 0)) ≡ false) (u : Bool) (n : u ≡ marked (bp first) bs) where
    pub next-backpointer : (u && eqb c 0) ≡ true → r ≡ hands (hands_backpointer at) at (leb max_backpointers b) (body (bp first) FieldOutOfRange (backpointer_fits h) bs) → r ≡ handed_next at h a b c bs
    unfolding handed_next
    next-backpointer z i = i ∙ rw (← m, y, ← n, z)

    module _ (z : (u && eqb c 0) ≡ false) (v : Bool) (o : v ≡ marked (lg first) bs) where
      pub next-record : v ≡ true → r ≡ hands (hands_record at) at (leb max_records c) (body (lg first) FieldOutOfRange (record_fits h) bs) → r ≡ handed_next at h a b c bs
      unfolding handed_next
      next-record f i = i ∙ rw (← m, y, ← n, z, ← o, f)

      pub next-close : (k : ℕ) → v ≡ false → k ≡ a + b + c → r ≡ hands_close at (closing k bs) → r ≡ handed_next at h a b c bs
      unfolding handed_next
      next-close k f e i = i ∙ rw (e, ← m, y, ← n, z, ← o, f)

-- ---- at a place

module _ (s : List ℕ) (at : ℕ) where
  pub stand-fail : (why : Refusal) → fail why ≡ one (hd first) FieldOutOfRange head_fits s → stays (Refused why) at ≡ handed_at s at
  unfolding handed_at handed_under
  stand-fail why e = ap (handed_under s at) e

  module _ (h : Head) (e : more h (drop head_size s) ≡ one (hd first) FieldOutOfRange head_fits s) where
    under : handed_at s at ≡ handed_under s at (more h (drop head_size s))
    unfolding handed_at
    under = ap (handed_under s at) (sym e)

    pub stand-head : at < head_size → hands_head h ≡ handed_at s at
    unfolding handed_under
    stand-head l = sym (under ∙ rw (lt-ltb _ _ l))

    module _ (l : head_size ≤ at) where
      pub stand-past : length s < at → stays (Refused EndsEarly) at ≡ handed_at s at
      unfolding handed_under
      stand-past m = sym (under ∙ rw (le-ltb _ _ l, lt-ltb _ _ m))

      module _ (m : at ≤ length s) where
        behind : handed_at s at ≡ handed_behind s at h (read_table (sections first) h (drop head_size (take at s)))
        unfolding handed_under
        behind = under ∙ rw (le-ltb _ _ l, le-ltb _ _ m)

        pub stand-bad : (why : Refusal) → fail why ≡ read_table (sections first) h (drop head_size (take at s)) → stays (Refused why) at ≡ handed_at s at
        unfolding handed_behind
        stand-bad why q = sym (behind ∙ rw (← q) refl)

        module _ (x : Stored) (end : ℕ) (q : more (items_in x) (drop end (take at s)) ≡ read_table (sections first) h (drop head_size (take at s))) (t : Tabled h (take at s) (record { tables = x; end = end })) where
          left : length (drop end (take at s)) ≡ at - end
          left = length-drop end (take at s) ∙ ap (λ (n : ℕ). n - end) (length-take-le at s m)

          pub stand-off : end < at → stays (Refused MarkNotAllowed) at ≡ handed_at s at
          unfolding handed_behind
          stand-off o = let w : 1 ≤ length (drop end (take at s)) = omega (arith, left) in sym (behind ∙ rw (← q) (rw (le-leb _ _ w) refl))

          pub stand-next : at ≤ end → (r : Handed) → r ≡ handed_next at h x.entries.count x.backpointers.count x.records.count (drop at s) → r ≡ handed_at s at
          unfolding handed_behind
          stand-next o r i =
              let w : length (drop end (take at s)) < 1 = omega (arith, left) in
              let a : x.entries.count ≡ length (entries_of x.entries) = ap (λ (z : Stored). z.entries.count) t.stored in
              let b : x.backpointers.count ≡ length (backpointers_of x.backpointers) = ap (λ (z : Stored). z.backpointers.count) t.stored in
              let c : x.records.count ≡ length (records_of x.records) = ap (λ (z : Stored). z.records.count) t.stored in
              i ∙ sym (behind ∙ rw (← q) (rw (lt-leb _ _ w, ← a, ← b, ← c) refl))
