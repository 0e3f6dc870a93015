-- The writer on the tables: its bytes and their number, and a law for each way through the code.
use mathlib.Core.Bool.{Bool, ◌&&◌, false, true}
use mathlib.Core.List.{List, [], ◌++◌, ◌∷◌, map}
use mathlib.Core.Path.{◌∙◌, ◌≡◌, ap, refl, sym}
use Prim.Native.Nat.{◌<◌, ◌≤◌, ℕ}
use native.Mathlib.Omega.{arith}
use lib.Dec.{ltb}
use lib.ListN.{length, length-map}
use borrow.Author.Tests.{le-leb, lt-leb}
use Rattle.lists.specs.Lists.{pick}
use Rattle.protocol.specs.Order.{in_order}
use Rattle.protocol.specs.Tables.{in_stage, is_partition}
use Rattle.protocol.specs.declared.Backpointer.{Backpointer}
use Rattle.protocol.specs.declared.Entry.{Entry}
use Rattle.protocol.specs.declared.Record.{Record}
use Rattle.std.specs.Prelude.{Err, Ok, Result}
use Rattle.protocol.specs.declared.Refusal.{Refusal}
use Rattle.protocol.specs.declared.Refusal.TheVariants.{OutOfOrder, OutOfRange, RoomTooShort}
use Rattle.protocol.specs.declared.Stage.TheVariants.{Ready as ReadyStage}
use Rattle.tables.specs.View.{Sized, partition_at, shaped, view}
use Rattle.tables.specs.declared.Partition.{Partition}
use Rattle.tables.specs.declared.Tables.{Tables}
use Rattle.answers.specs.Called.{Ready}
use Rattle.codec.specs.Codec.{via}
use Rattle.codec.specs.Over.{over}
use Rattle.picture.specs.Answers.{items_in}
use Rattle.picture.specs.Picture.{lg, first, picture_of, put, write}
use Rattle.picture.specs.Rows.{counted, put_rows, put_row, put_table}
use Rattle.picture.specs.Store.{Written, store, unwritten, written_into}
use Rattle.picture.specs.declared.Head.{Head}
use Rattle.writing.specs.Written.{after, written_from}
use Rattle.lists.proofs.Tests.{by_test}
use Rattle.answers.proofs.Ways.{now-four, now-there}
use Rattle.answers.proofs.Ways.{now-ready, read-ranged, read-sized, read_view, ready-test, ready-there, ready-view}
use Rattle.picture.proofs.Lengths.{picture-length, sized}
use Rattle.writing.proofs.Pictures.{backpointer-count, entry-count, record-count}

-- ---- stages are not written

rows-ready : (rs : List Record) → put_rows (lg first) (map (in_stage ReadyStage) rs) ≡ put_rows (lg first) rs
unfolding put_rows put_row lg via
rows-ready [] = refl
rows-ready (r ∷ rs) = ap (λ (l : List ℕ). put_row (lg first) r ++ l) (rows-ready rs)

put-ready : (h : Head) (es : List Entry) (bs : List Backpointer) (rs : List Record)
    → put first h (es, (bs, (map (in_stage ReadyStage) rs, tt))) ≡ put first h (es, (bs, (rs, tt)))
unfolding put put_table counted
put-ready h es bs rs = rw (rows-ready rs, length-map rs (in_stage ReadyStage)) refl

-- ---- the partition x, which was read at p

module _ (t : Tables) (p : ℕ) (z : Sized t) (r : Ready t) (h : p < t.count) (x : Partition) (e : x ≡ partition_at t p) where
  abbrev written : List ℕ
  written = write first (picture_of (view t) p)

  -- what is written, and how much it is
  bytes_of : (i : Head) → i.partition ≡ p → i.count ≡ t.count → i.last ≡ x.last → written ≡ put first i (items_in x)
  unfolding write picture_of
  bytes_of i a b c =
      rw (read_view t p z r h x e)
      (put-ready _ _ _ _ ∙ ap (λ (j : Head). put first j (items_in x)) (λ k. record { partition = sym a k; count = (ready-view t z r ∙ sym b) k; last = sym c k }))

  size_is : length written ≡ sized x.entries.count x.backpointers.count x.records.count
  size_is =
      let s = read-sized t p z r h x e in
      let k = read-ranged t p z r h x e in
      picture-length (view t) p r.order (ready-there t p z r h)
      ∙ rw (read_view t p z r h x e, entry-count x s k, backpointer-count x s k, record-count x s k) refl

  module _ (l : List ℕ) (n : ℕ) (s : n ≡ sized x.entries.count x.backpointers.count x.records.count) where
    pub write-short : length l < n → after (Err RoomTooShort) l ≡ written_into written l
    unfolding written_into
    write-short g = rw (lt-leb (length written) (length l) (omega (arith, size_is))) refl

    pub write-fits : (i : Head) → i.partition ≡ p → i.count ≡ t.count → i.last ≡ x.last → (b : List ℕ) → n ≤ length l → b ≡ over l 0 (put first i (items_in x))
        → after (Ok n) b ≡ written_into written l
    unfolding written_into
    write-fits i ip ic il b g w =
        let f : n ≡ length written = s ∙ sym size_is in
        let o : b ≡ over l 0 written = w ∙ ap (over l 0) (sym (bytes_of i ip ic il)) in
        rw (le-leb (length written) (length l) (omega (arith, f))) (λ k. record { told = Ok (f k); room = o k })

pub ruleset writes = (read-ranged, write-short, write-fits)

-- ---- the refusals that come first

module _ (t : Tables) (p : ℕ) (l : List ℕ) (b : Bool) (e : b ≡ (shaped t && in_order (view t))) where
  -- the two tests of the order are one
  joined : written_from t p l ≡ pick b (pick (is_partition (view t) p) (written_into (write first (picture_of (view t) p)) l) (unwritten OutOfRange l)) (unwritten OutOfOrder l)
  unfolding written_from store
  joined = rw e (by_test (shaped t) (λ s. rw s refl) (λ s. rw s refl))

  pub write-disordered : b ≡ false → after (Err OutOfOrder) l ≡ written_from t p l
  write-disordered f = sym (joined ∙ rw f refl)

  module _ (z : Sized t) (f : b ≡ true) (c : Bool) (g : c ≡ ltb p t.count) where
    placed : is_partition (view t) p ≡ c
    placed = ready-test t p z (now-ready t b e f) c g

    pub write-unplaced : c ≡ false → after (Err OutOfRange) l ≡ written_from t p l
    write-unplaced n = sym (joined ∙ rw (f, placed, n) refl)

    pub write-placed : (a : Result ℕ Refusal) (m : List ℕ) → c ≡ true → after a m ≡ written_into (write first (picture_of (view t) p)) l → after a m ≡ written_from t p l
    write-placed a m y w = w ∙ sym (joined ∙ rw (f, placed, y) refl)

pub ruleset writings = (write-disordered, now-ready, now-there, now-four, write-unplaced, write-placed)

-- ---- one outcome: a report and a room are told by what they are together

module _ (r s : Result ℕ Refusal) (a b : List ℕ) (e : after r a ≡ after s b) where
  pub one-report : r ≡ s
  one-report = ap (λ (w : Written). w.told) e

  pub one-room : a ≡ b
  one-room = ap (λ (w : Written). w.room) e
