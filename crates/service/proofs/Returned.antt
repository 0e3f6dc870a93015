-- What was written of a partition is loaded back.
use mathlib.Core.Bool.{false, true}
use mathlib.Core.List.{List}
use mathlib.Core.Path.{◌∙◌, ◌≡◌, ap, refl}
use Prim.Native.Nat.{◌+◌, ◌≤◌, ℕ}
use native.Mathlib.Nat.{le_trans}
use lib.ListN.{drop, length, take}
use lib.Seq.{take_at}
use borrow.Author.Tests.{le-leb}
use Rattle.codec.specs.Over.{over}
use Rattle.protocol.specs.Answers.{accept}
use Rattle.protocol.specs.Events.{crashing, apply, bare}
use Rattle.protocol.specs.Faults.{crash}
use Rattle.protocol.specs.Order.{in_order}
use Rattle.protocol.specs.Tables.{Model, is_partition, partition}
use Rattle.protocol.specs.declared.Reply.TheVariants.{None}
use Rattle.protocol.proofs.Applied.{apply-is}
use Rattle.protocol.proofs.Kept.{keeps-order}
use Rattle.tables.specs.View.{pack}
use Rattle.tables.proofs.Packs.{view-pack}
use Rattle.tables.proofs.Shapes.{order-shaped}
use Rattle.answers.specs.Called.{accepted_with, called, stored}
use Rattle.picture.specs.Picture.{first, largest_picture, picture_of, write}
use Rattle.picture.specs.Store.{load, store, written_into}
use Rattle.picture.proofs.Claimed.{claimed}
use Rattle.writing.specs.Written.{written_from}
use Rattle.loading.specs.Loaded.{loaded}
use Rattle.service.specs.Calls.{picture_in}
use Rattle.service.proofs.Follow.{call-stores}

take-over : (bs l : List ℕ) → take (length bs) (over l 0 bs) ≡ bs
unfolding over
take-over bs l = take_at bs (drop (0 + length bs) l) (length bs) refl

module _ (m : Model) (p : ℕ) (room : List ℕ) (o : in_order m ≡ true) (i : is_partition m p ≡ true) (h : largest_picture ≤ length room) where
  abbrev bytes : List ℕ
  bytes = write first (picture_of m p)

  pub written : picture_in (pack m) p room ≡ bytes
  unfolding written_from store written_into
  written =
      let l = le-leb _ _ (le_trans (claimed.2 m p o i) h) in
      rw (order-shaped m o, view-pack m, o, i, l) (take-over bytes room)

-- load on stored tables in order
load_stored : (m n : Model) (p : ℕ) (bs : List ℕ) → in_order m ≡ true → load m p bs ≡ accept 0 None n → loaded (pack m) p bs ≡ accepted_with (pack n) 0 None
unfolding loaded stored
load_stored m n p bs o e = rw (order-shaped m o, view-pack m, e) refl

module _ (m : Model) (p : ℕ) (room : List ℕ) (o : in_order m ≡ true) (i : is_partition m p ≡ true) (h : largest_picture ≤ length room) where
  pub loads-back : (partition m p).up ≡ false → loaded (pack m) p (picture_in (pack m) p room) ≡ accepted_with (pack m) 0 None
  loads-back d = ap (loaded (pack m) p) (written m p room o i h) ∙ load_stored m m p _ o (claimed.3 m p o i d)

  crashed : (apply (crashing p) m).model ≡ (crash m p).model
  unfolding bare
  crashed = rw (apply-is (crashing p) m o) refl

  order : in_order (crash m p).model ≡ true
  unfolding bare
  order = keeps-order (crashing p) m o

  pub loads-after-crash : (partition m p).up ≡ true
      → loaded (called (pack m) (crashing p)).tables p (picture_in (pack m) p room) ≡ accepted_with (called (pack m) (crashing p)).tables 0 None
  loads-after-crash u =
      let t : (called (pack m) (crashing p)).tables ≡ pack (crash m p).model = call-stores (crashing p) m o ∙ ap pack crashed in
      rw t (ap (loaded (pack (crash m p).model) p) (written m p room o i h) ∙ load_stored _ _ p _ order (claimed.4 m p i u order))
