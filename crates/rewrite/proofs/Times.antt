-- A law for each way through the code: how often a picture is written, and what that leaves.
use mathlib.Core.List.{List}
use mathlib.Core.Path.{◌∙◌, ◌≡◌, ap, refl, sym}
use Prim.Native.Nat.{◌+◌, ◌<◌, ◌≤◌, suc, zero, ℕ}
use native.Mathlib.Omega.{arith}
use lib.Dec.{leb}
use lib.ListN.{length}
use lib.Seq.{length-take-le}
use borrow.Author.Tests.{le-ltb, leb-true, lt-ltb}
use Rattle.protocol.specs.Events.{crashing, opening}
use Rattle.protocol.specs.Order.{in_order}
use Rattle.protocol.specs.Tables.{fresh, is_partition}
use Rattle.std.specs.Prelude.{None, Option, Some, Err, IfOk, Ok, Result}
use Rattle.protocol.specs.declared.Refusal.{Refusal}
use Rattle.tables.specs.View.{pack, shaped, view}
use Rattle.tables.specs.declared.Tables.{Tables}
use Rattle.answers.specs.Called.{called}
use Rattle.answers.specs.declared.Answered.{Answered}
use Rattle.picture.specs.Store.{Written, size_of, store, written_into}
use Rattle.picture.specs.declared.Head.{Head}
use Rattle.writing.specs.Written.{after, written_from}
use Rattle.loading.specs.Loaded.{loaded}
use Rattle.lines.specs.Places.{number_at}
use Rattle.lists.proofs.Tests.{by_test}
use Rattle.codec.proofs.Puts.{length_over}
use Rattle.rewrite.specs.Again.{Counts, again, awaiting, filling, times_of}

-- ---- how often

module _ (word : List ℕ) (m : Option (ℕ × ℕ)) (e : m ≡ number_at word 0) where
  pub times-numberless : m ≡ None → 0 ≡ times_of word
  times-numberless h = ap (filling (length word)) (sym h ∙ e)

  module _ (n next : ℕ) (h : m ≡ Some (n, next)) where
    told_of : filling (length word) (Some (n, next)) ≡ times_of word
    told_of = ap (filling (length word)) (sym h ∙ e)

    pub times-with-more : next < length word → 0 ≡ times_of word
    times-with-more l = rw (← told_of, lt-ltb next (length word) l) refl

    pub times-whole : length word ≤ next → n ≡ times_of word
    times-whole l = rw (← told_of, le-ltb next (length word) l) refl

pub ruleset counting = (times-numberless, times-with-more, times-whole)

-- ---- into which tables

module _ (h : Head) (c p : ℕ) (ce : c ≡ h.count) (pe : p ≡ h.partition) where
  pub awaits : (none : Tables) (a b : Answered) (t : Tables) → none ≡ pack (fresh 0) → a ≡ called none (opening c) → b ≡ called a.tables (crashing p) → t ≡ b.tables
      → t ≡ awaiting h
  awaits none a b t en ea eb et = rw (et, eb, ea, en, ce, pe) refl

pub loads : (h : Head) (p : ℕ) (t : Tables) (bs : List ℕ) (a : Answered) → p ≡ h.partition → t ≡ awaiting h → a ≡ loaded t p bs → a ≡ loaded (awaiting h) h.partition bs
loads h p t bs a pe et ea = rw (ea, et, pe) refl

-- ---- what is reported stands in the room

abbrev Fits : Written → Type 0
Fits w = size_of w.told ≤ length w.room

into-fits : (bs room : List ℕ) → Fits (written_into bs room)
unfolding written_into
into-fits bs room =
    by_test (leb (length bs) (length room))
    (λ y. let l : length bs ≤ length room = leb-true _ _ y in rw (y, length_over room 0 bs (omega arith)) l)
    (λ n. rw n (omega arith))

from-fits : (t : Tables) (p : ℕ) (room : List ℕ) → Fits (written_from t p room)
unfolding written_from store
from-fits t p room =
    by_test (shaped t)
    (λ s. by_test (in_order (view t))
    (λ o. by_test (is_partition (view t) p) (λ i. rw (s, o, i) (into-fits _ room)) (λ i. rw (s, o, i) (omega arith)))
    (λ o. rw (s, o) (omega arith)))
    (λ s. rw s (omega arith))

module _ (t : Tables) (p : ℕ) (room : List ℕ) where
  again-fits : (n : ℕ) → Fits (again t p n room)
  unfolding again
  again-fits zero = omega arith
  again-fits (suc n) = from-fits t p _

  module _ (n : ℕ) (r : Result ℕ Refusal) (l : List ℕ) (e : after r l ≡ again t p n room) where
    pub again-within : size_of r ≤ length l
    again-within = rw (ap (λ (w : Written). w.told) e, ap (λ (w : Written). w.room) e) (again-fits n)

    pub again-counts : IfOk r (λ size. Counts size l)
    again-counts = over r again-within
      where
        over : (r : Result ℕ Refusal) → size_of r ≤ length l → IfOk r (λ size. Counts size l)
        over (Ok n) h = (h, sym (length-take-le n l h))
        over (Err why) h = search

    pub again-ended : (m : ℕ) → n ≤ m → m ≤ n → after r l ≡ again t p m room
    again-ended m a b = let h : n ≡ m = omega arith in rw (← h) e

    -- once more
    pub again-more : (s : Result ℕ Refusal) (next : List ℕ) → after s next ≡ written_from t p l → after s next ≡ again t p (n + 1) room
    unfolding again
    again-more s next h =
        let one : n + 1 ≡ suc n = omega arith in
        rw one (h ∙ ap (λ (w : Written). written_from t p w.room) e)

pub again-none : (t : Tables) (p : ℕ) (room : List ℕ) → after (Ok 0) room ≡ again t p 0 room
unfolding again
again-none t p room = refl

pub ruleset repeating = (again-none, again-counts, again-ended, again-more)
