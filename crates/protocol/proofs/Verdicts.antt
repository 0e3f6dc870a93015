-- Why a request is answered as it is: each verdict with what was found among the back-pointers.
use mathlib.Core.Bool.{Bool, false, true}
use mathlib.Core.List.{List, [], ◌∷◌}
use mathlib.Core.Path.{◌≡◌, refl}
use Prim.Native.Nat.{◌<◌, ℕ}
use lib.Dec.{eqb, leb}
use lib.ListN.{length}
use borrow.Author.Tests.{leb-false}
use Rattle.lists.specs.Lists.{keep}
use Rattle.protocol.specs.Bounds.{max_backpointers}
use Rattle.protocol.specs.Deliver.{add_verdict, drop_verdict, in_its_place, is_exactly, of_object, place_verdict, unless_full, verdict_of}
use Rattle.protocol.specs.Elements.{AddsIt, Backpointer, BackpointersFull, Create, DropsIt, Kind, Link, Message, No, NoBecause, ObjectIdle, ObjectInUse, PlaceTaken, Reason, SaysOnly, Unlink, Verdict, Yes, adds}
use Rattle.lists.proofs.Tests.{by_test, no_true}

-- a request from p that is x, at a partition with the back-pointers bs
module _ (bs : List Backpointer) (p : ℕ) (x : Message) where
  pub data Judged : Kind → Verdict → Type 0 where
    place_own : {k : Kind} → adds k ≡ true → (y : Backpointer) (ys : List Backpointer) → keep (in_its_place p x) bs ≡ y ∷ ys
        → eqb y.number x.number ≡ true → Judged k (SaysOnly Yes)
    place_other : {k : Kind} → adds k ≡ true → (y : Backpointer) (ys : List Backpointer) → keep (in_its_place p x) bs ≡ y ∷ ys
        → eqb y.number x.number ≡ false → Judged k (SaysOnly (NoBecause PlaceTaken))
    refusing : {k : Kind} → adds k ≡ true → keep (in_its_place p x) bs ≡ [] → (why : Reason) → Judged k (SaysOnly (NoBecause why))
    adding : {k : Kind} → adds k ≡ true → keep (in_its_place p x) bs ≡ [] → length bs < max_backpointers → Judged k AddsIt
    missing : {k : Kind} → adds k ≡ false → keep (is_exactly p x) bs ≡ [] → Judged k (SaysOnly No)
    dropping : {k : Kind} → adds k ≡ false → Judged k DropsIt

  full-judged : (k : Kind) → adds k ≡ true → keep (in_its_place p x) bs ≡ [] → (full : Bool) → leb max_backpointers (length bs) ≡ full → Judged k (unless_full full)
  full-judged k a e true f = refusing a e BackpointersFull
  full-judged k a e false f = adding a e (leb-false max_backpointers (length bs) f)

  add-judged : (k : Kind) → adds k ≡ true → keep (in_its_place p x) bs ≡ [] → (os : List Backpointer) → Judged k (add_verdict k os (leb max_backpointers (length bs)))
  add-judged Link a e [] = refusing a e ObjectIdle
  add-judged Link a e (o ∷ os) = full-judged Link a e (leb max_backpointers (length bs)) refl
  add-judged Create a e [] = full-judged Create a e (leb max_backpointers (length bs)) refl
  add-judged Create a e (o ∷ os) = refusing a e ObjectInUse
  add-judged Unlink a e os = no_true a refl

  place-judged : (k : Kind) → adds k ≡ true → (w : Verdict) → (keep (in_its_place p x) bs ≡ [] → Judged k w)
      → (ys : List Backpointer) → keep (in_its_place p x) bs ≡ ys → Judged k (place_verdict x ys w)
  place-judged k a w f [] e = f e
  place-judged k a w f (y ∷ ys) e =
      by_test (eqb y.number x.number) (λ t. rw t (place_own a y ys e t)) (λ t. rw t (place_other a y ys e t))

  drop-judged : (ys : List Backpointer) → keep (is_exactly p x) bs ≡ ys → Judged Unlink (drop_verdict ys)
  drop-judged [] e = missing refl e
  drop-judged (y ∷ ys) e = dropping refl

  pub judged : (k : Kind) → Judged k (verdict_of k bs p x)
  judged Link = place-judged Link refl _ (λ e. add-judged Link refl e (keep (of_object x.object) bs)) (keep (in_its_place p x) bs) refl
  judged Create = place-judged Create refl _ (λ e. add-judged Create refl e (keep (of_object x.object) bs)) (keep (in_its_place p x) bs) refl
  judged Unlink = drop-judged (keep (is_exactly p x) bs) refl
