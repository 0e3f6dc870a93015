-- Load: a law for each way through the code.
use mathlib.Core.Bool.{Bool, ◌&&◌, false, not, true}
use mathlib.Core.List.{List}
use mathlib.Core.Path.{◌∙◌, ◌≡◌, ap, refl, sym}
use Prim.Native.Nat.{◌<◌, ℕ}
use lib.Dec.{eqb, ltb}
use Rattle.protocol.specs.Answers.{check}
use Rattle.protocol.specs.Elements.{is_accepted}
use Rattle.protocol.specs.declared.Reply.TheVariants.{None}
use Rattle.protocol.specs.Order.{in_order}
use Rattle.protocol.specs.Tables.{is_partition, partition_count, set_partition}
use Rattle.protocol.specs.declared.Refusal.{Refusal}
use Rattle.protocol.specs.declared.Refusal.TheVariants.{FieldOutOfRange, IsUp, OutOfOrder, OutOfRange}
use Rattle.tables.specs.View.{Sized, pack, pack_partition, partition_at, shaped, view, view_partition}
use Rattle.tables.specs.declared.Partition.{Partition}
use Rattle.tables.specs.declared.Tables.{Tables}
use Rattle.answers.specs.Called.{Ready, refused_with, stored, tested}
use Rattle.answers.specs.declared.Answered.{Answered}
use Rattle.std.specs.Prelude.{Err, Ok}
use Rattle.lists.specs.Lists.{pick}
use Rattle.picture.specs.Answers.{Pictured, picture_read}
use Rattle.picture.specs.Picture.{Picture, first, head_of, read}
use Rattle.picture.specs.Rows.{Read, fail, more}
use Rattle.picture.specs.Store.{load, load_read, load_tables}
use Rattle.picture.specs.declared.Head.{Head}
use Rattle.picture.specs.declared.Picture.{Picture as Shown}
use Rattle.loading.specs.Loaded.{loaded, replaced, shown_by}
use Rattle.lists.proofs.Tests.{by_test}
use Rattle.tables.proofs.Packs.{pack-view, partition-unpack}
use Rattle.answers.proofs.Ways.{now-four, now-there}
use Rattle.answers.proofs.Ways.{now-ready, passes, read_up, ready-test, ready-view, refuses, test-fails, test-passes}

-- ---- a picture that was read, with the header i and the tables y

module _ (t : Tables) (z : Sized t) (r : Ready t) (p : ℕ) (i : Head) (y : Partition) (a : Answered) where
  module _ (b : Bool) (e : b ≡ (eqb i.partition p && eqb i.count t.count)) where
    fits : (eqb i.partition p && eqb i.count (partition_count (view t))) ≡ b
    fits = rw (ready-view t z r) (sym e)

    pub load-another : b ≡ false → a ≡ refused_with t FieldOutOfRange → a ≡ stored t (load_tables (view t) p (shown_by i y))
    unfolding load_tables
    load-another f w = w ∙ refuses t _ FieldOutOfRange _ _ refl (fits ∙ f)

    module _ (f : b ≡ true) (h : p < t.count) (x : Partition) (g : x ≡ partition_at t p) where
      pub load_up : x.up ≡ true → a ≡ refused_with t IsUp → a ≡ stored t (load_tables (view t) p (shown_by i y))
      unfolding load_tables
      load_up u w = w ∙ refuses t _ IsUp _ _ refl (ap not (read_up t p z r h x g ∙ u)) ∙ passes t _ FieldOutOfRange _ _ (fits ∙ f)

      pub load-down : x.up ≡ false → a ≡ stored t (replaced (view t) (set_partition (view t) p (view_partition y))) → a ≡ stored t (load_tables (view t) p (shown_by i y))
      unfolding load_tables
      load-down u w = w ∙ passes t _ IsUp _ _ (ap not (read_up t p z r h x g ∙ u)) ∙ passes t _ FieldOutOfRange _ _ (fits ∙ f)

pub ruleset shows = (load-another, load_up, load-down)

-- ---- what the reader says of the bytes

-- the tables that it gives are in their stored form
pub read-stored : (bs : List ℕ) (q : Shown) → Pictured bs (Ok q) → pack_partition (view_partition q.tables) ≡ q.tables
read-stored bs q s = over (read first bs) s.answer
  where
    over : (R : Read Picture) → Ok q ≡ picture_read R → pack_partition (view_partition q.tables) ≡ q.tables
    over (fail why) e = cc
    over (more x r) e =
        let g : q ≡ record { head = head_of x; tables = pack_partition x.tables } = cc in
        let f : q.tables ≡ pack_partition x.tables = ap (λ (o : Shown). o.tables) g in
        rw f (ap pack_partition (partition-unpack x.tables))

module _ (t : Tables) (p : ℕ) (bs : List ℕ) (a : Answered) where
  pub load-unread : Sized t → Ready t → (why : Refusal) → Pictured bs (Err why) → a ≡ refused_with t why → a ≡ stored t (load_read (view t) p (read first bs))
  unfolding load_read stored
  load-unread z r why s w =
      let k : pick (is_accepted why) (pack (view t)) t ≡ t = by_test (is_accepted why) (λ f. rw f (pack-view t z r.shaped)) (λ f. rw f refl) in
      w ∙ rw (← s.telling) (ap (λ (u : Tables). record { answer = record { refusal = why; number = 0; reply = None }; tables = u }) (sym k))

  pub loads_read : (q : Shown) → Pictured bs (Ok q) → a ≡ stored t (load_tables (view t) p (shown_by q.head q.tables)) → a ≡ stored t (load_read (view t) p (read first bs))
  unfolding load_read
  loads_read q s w = w ∙ rw (← s.telling) refl

pub ruleset readings = (read-stored, load-unread, loads_read)

-- ---- the refusals that come first

module _ (t : Tables) (p : ℕ) (bs : List ℕ) (a : Answered) (b : Bool) (e : b ≡ (shaped t && in_order (view t))) where
  -- the two tests of the order are one
  joined : loaded t p bs ≡ tested t (check (is_partition (view t) p) OutOfRange (view t) (load_read (view t) p (read first bs)))
  unfolding loaded tested load check
  joined = by_test (shaped t) (λ s. rw s refl) (λ s. rw s refl)

  pub load-disordered : b ≡ false → a ≡ refused_with t OutOfOrder → a ≡ loaded t p bs
  load-disordered f w = test-fails t b _ a e f w ∙ sym joined

  module _ (z : Sized t) (f : b ≡ true) (c : Bool) (g : c ≡ ltb p t.count) where
    placed : is_partition (view t) p ≡ c
    placed = ready-test t p z (now-ready t b e f) c g

    pub load-unplaced : c ≡ false → a ≡ refused_with t OutOfRange → a ≡ loaded t p bs
    load-unplaced n w = test-passes t b _ a e f (w ∙ refuses t _ OutOfRange _ _ refl (placed ∙ n)) ∙ sym joined

    pub load-placed : c ≡ true → a ≡ stored t (load_read (view t) p (read first bs)) → a ≡ loaded t p bs
    load-placed y w = test-passes t b _ a e f (w ∙ passes t _ OutOfRange _ _ (placed ∙ y)) ∙ sym joined

pub ruleset loads = (load-disordered, now-ready, now-there, now-four, load-unplaced, load-placed)
