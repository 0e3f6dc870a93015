-- From the ties to the names and back-pointers.
use mathlib.Core.Bool.{Bool, ◌&&◌, true}
use mathlib.Core.List.Memᴰ
use mathlib.Core.List.{Memᴰ, [], ◌∷◌}
use mathlib.Core.Logic.{◌⊎◌, inl, inr}
use mathlib.Core.Path.{◌∙◌, ◌≡◌, ap, refl, subst, sym}
use Prim.Native.Nat.{ℕ}
use lib.Dec.{eqb}
use borrow.Author.Tests.{eqb-true}
use Rattle.lists.specs.Lists.{keep}
use Rattle.protocol.specs.Demands.{AllAccounted, HasName, HasOpenRecord, NamesHold, backpointer_bears, backpointer_for, entry_for}
use Rattle.protocol.specs.Elements.{Entry, Record}
use Rattle.protocol.specs.Tables.{Model, entry_bears, entry_of, partition, record_bears}
use Rattle.lists.proofs.Members.{mem-keep, one-mem, seen-mem}
use Rattle.lists.proofs.Tests.{and_left, and_right, eqb_same}
use Rattle.protocol.proofs.Content.{Content, backpointer_at, entry_at}
use Rattle.protocol.proofs.Ties.{Tie, Ties, back-why, entry-back, rule}
use Rattle.protocol.proofs.Whole.{recs_of}

pub all_held : {m : Model} → Ties m → NamesHold m
all_held {m} i p e h =
    let n : ℕ = e.number in
    let x : Tie m p n = i p n in
    let c : Content = x.what in
    let z = one-mem x.entry e (entry_at c n) (rw x.has.entries at (mem-keep (entry_bears n) (partition m p).entries e h (eqb_same n))) in
    let st : x.back ≡ true = entry-back x.way x.back (sym (ap (λ (t : Bool). rule x.way t x.back) z.0) ∙ x.rule) in
    let w : keep (backpointer_bears p n) (partition m c.partition).backpointers ≡ backpointer_at c n p ∷ [] = x.has.backpointers c.partition
    ∙ rw (st, eqb_same c.partition) refl in
    subst (λ (e' : Entry). Memᴰ (backpointer_for p e') (partition m e'.partition).backpointers) (sym z.1)
    (seen-mem (backpointer_bears p n) (partition m c.partition).backpointers [] (backpointer_at c n p) w)

pub accounted : {m : Model} → Ties m → AllAccounted m
accounted {m} i q b h =
    let p : ℕ = b.parent in
    let n : ℕ = b.number in
    let x : Tie m p n = i p n in
    let c : Content = x.what in
    let z = one-mem (x.back && eqb q c.partition) b (backpointer_at c n p)
    (rw (x.has.backpointers q) at (mem-keep (backpointer_bears p n) (partition m q).backpointers b h (rw (eqb_same p, eqb_same n) refl))) in
    let qc : q ≡ c.partition = eqb-true q c.partition (and_right x.back _ z.0) in
    let r : rule x.way x.entry true ≡ true = sym (ap (rule x.way x.entry) (and_left _ _ z.0)) ∙ x.rule in
    go x qc z.1 (back-why c n x.way x.entry r)
  where
    go : (x : Tie m b.parent b.number) → q ≡ x.what.partition → b ≡ backpointer_at x.what b.number b.parent
        → (x.entry ≡ true) ⊎ ((r : Record) × (recs_of x.what b.number x.way ≡ r ∷ []) × (entry_of r ≡ entry_at x.what b.number))
        → HasName m q b ⊎ HasOpenRecord m q b
    go x qc e y =
        let r : entry_for q b ≡ entry_at x.what b.number = λ j.
        record { directory = (e j).directory; name = (e j).name; partition = qc j; object = (e j).object; number = b.number } in
        elim y [
          | inl s ↦ inl (Memᴰ.cast r
              (seen-mem (entry_bears b.number) (partition m b.parent).entries [] (entry_at x.what b.number) (x.has.entries ∙ rw s refl)))
          | inr s ↦ inr (s.0, seen-mem (record_bears b.number) (partition m b.parent).records [] s.0 (x.has.records ∙ s.1), s.2 ∙ sym r)
        ]
