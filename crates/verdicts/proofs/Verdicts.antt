-- The ways through the verdict on a request, in plain variables.
use mathlib.Core.Bool.{Bool, false, true}
use mathlib.Core.List.{List, [], ◌∷◌}
use mathlib.Core.Path.{◌∙◌, ◌≡◌, ap, refl, sym}
use Prim.Native.Nat.{◌<◌, ℕ}
use native.Mathlib.Omega.{arith}
use borrow.Author.Tests.{leb-false}
use lib.Dec.{eqb, leb}
use lib.ListN.{get_or, length, take}
use Rattle.std.specs.Prelude.{None, Option, Some}
use Rattle.std.specs.Option.{is_some as is_found}
use Rattle.lists.specs.Lists.{first_at, is_some, keep, pick}
use Rattle.protocol.specs.Bounds.{max_backpointers}
use Rattle.protocol.specs.Deliver.{add_verdict, drop_verdict, in_its_place, is_exactly, of_object, place_verdict, to_add, unless_full, verdict_of}
use Rattle.protocol.specs.declared.Backpointer.{Backpointer}
use Rattle.protocol.specs.declared.Body.{Body}
use Rattle.protocol.specs.declared.Body.TheVariants.{No, NoBecause, Yes}
use Rattle.protocol.specs.declared.Kind.{Kind}
use Rattle.protocol.specs.declared.Kind.TheVariants.{Create, Link, Unlink}
use Rattle.protocol.specs.declared.Message.{Message}
use Rattle.protocol.specs.declared.Reason.TheVariants.{PlaceTaken}
use Rattle.protocol.specs.declared.Verdict.{Verdict}
use Rattle.protocol.specs.declared.Verdict.TheVariants.{AddsIt, DropsIt, SaysOnly}
use Rattle.tables.specs.Slots.{no_backpointer}
use Rattle.lists.proofs.Finds.{found-kept, none_kept, present}
use Rattle.lists.proofs.Tests.{no_true}

-- ---- the place is looked for, or the back-pointer itself

module _ (xs : List Backpointer) (n s : ℕ) (x : Message) (f : Option ℕ) where
  module _ (e : f ≡ first_at (in_its_place s x) (take n xs)) (other v : Verdict) where
    pub place-free : f ≡ None → v ≡ other → v ≡ place_verdict x (keep (in_its_place s x) (take n xs)) other
    place-free q h = h ∙ rw (none_kept (in_its_place s x) 0 (take n xs) (sym e ∙ q)) refl

    pub place-held : (i : ℕ) (b : Backpointer) → f ≡ Some i → b ≡ get_or xs i no_backpointer
        → v ≡ pick (eqb b.number x.number) (SaysOnly Yes) (SaysOnly (NoBecause PlaceTaken))
        → v ≡ place_verdict x (keep (in_its_place s x) (take n xs)) other
    place-held i b q r h =
        let w = found-kept (in_its_place s x) xs n i f e q no_backpointer in
        h ∙ rw r refl ∙ ap (λ (l : List Backpointer). place_verdict x l other) (sym w.1)

  -- b is whether it was found
  module _ (e : f ≡ first_at (is_exactly s x) (take n xs)) (b : Bool) (g : b ≡ is_found f) where
    pub exact-absent : b ≡ false → SaysOnly No ≡ drop_verdict (keep (is_exactly s x) (take n xs))
    exact-absent q = go (keep (is_exactly s x) (take n xs)) (sym (present (is_exactly s x) (take n xs) f e) ∙ sym g ∙ q)
      where
        go : (l : List Backpointer) → is_some l ≡ false → SaysOnly No ≡ drop_verdict l
        go [] h = refl
        go (c ∷ l) h = no_true refl h

    pub exact-stands : b ≡ true → DropsIt ≡ drop_verdict (keep (is_exactly s x) (take n xs))
    exact-stands q = go (keep (is_exactly s x) (take n xs)) (sym (present (is_exactly s x) (take n xs) f e) ∙ sym g ∙ q)
      where
        go : (l : List Backpointer) → is_some l ≡ true → DropsIt ≡ drop_verdict l
        go [] h = no_true h refl
        go (c ∷ l) h = refl

pub ruleset places = (place-free, place-held)

pub ruleset exacts = (exact-absent, exact-stands)

-- ---- only where there is room does a verdict add

says-not : (b : Body) → AddsIt ≡ SaysOnly b → ⊥
says-not b h = absurd (let z : ◌≡◌ {A = ℕ} 0 1 = cc in omega arith)

no_drop : (bs : List Backpointer) → AddsIt ≡ drop_verdict bs → ⊥
no_drop [] h = says-not No h
no_drop (b ∷ bs) h = absurd (let z : ◌≡◌ {A = ℕ} 0 1 = cc in omega arith)

not_full : (full : Bool) → AddsIt ≡ unless_full full → full ≡ false
not_full true h = cc
not_full false h = refl

add-below : (k : Kind) (bs : List Backpointer) (full : Bool) → AddsIt ≡ add_verdict k bs full → full ≡ false
add-below Link [] full h = cc
add-below Link (b ∷ bs) full h = not_full full h
add-below Create [] full h = not_full full h
add-below Create (b ∷ bs) full h = cc
add-below Unlink bs full h = cc

place-below : (x : Message) (bs : List Backpointer) (v : Verdict) → AddsIt ≡ place_verdict x bs v → AddsIt ≡ v
place-below x [] v h = h
place-below x (b ∷ bs) v h = absurd (go (eqb b.number x.number) h)
  where
    go : (t : Bool) → AddsIt ≡ pick t (SaysOnly Yes) (SaysOnly (NoBecause PlaceTaken)) → ⊥
    go true h = says-not _ h
    go false h = says-not _ h

to-add-below : (k : Kind) (bs : List Backpointer) (s : ℕ) (x : Message) → AddsIt ≡ to_add k bs s x → length bs < max_backpointers
to-add-below k bs s x h =
    let full : Bool = leb max_backpointers (length bs) in
    let own : List Backpointer = keep (of_object x.object) bs in
    leb-false max_backpointers (length bs) (add-below k own full (place-below x (keep (in_its_place s x) bs) (add_verdict k own full) h))

pub adds-below : (k : Kind) (bs : List Backpointer) (s : ℕ) (x : Message) → AddsIt ≡ verdict_of k bs s x → length bs < max_backpointers
adds-below Link bs s x h = to-add-below Link bs s x h
adds-below Create bs s x h = to-add-below Create bs s x h
adds-below Unlink bs s x h = absurd (no_drop (keep (is_exactly s x) bs) h)
