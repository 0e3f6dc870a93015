-- Cut, crash, recover and open on tables that passed the test, in plain variables: one law for each way through them.
use mathlib.Core.Bool.{Bool, ◌&&◌, and-false, false, not, or-true, true}
use mathlib.Core.Path.{◌∙◌, ◌≡◌, ap, refl, sym}
use Prim.Native.Nat.{◌<◌, ◌≤◌, ℕ}
use lib.Dec.{leb, ltb}
use borrow.Author.Tests.{eq-eqb, leb-true, ltb-true, ne_eqb}
use Rattle.protocol.specs.Answers.{accept, check}
use Rattle.protocol.specs.Bounds.{max_partitions}
use Rattle.protocol.specs.Events.{opening, apply, bare}
use Rattle.protocol.specs.Faults.{between, crash, cut, lose, open_tables, recover, sent_between}
use Rattle.protocol.specs.Tables.{fresh, is_partition, partition, set_up, with_up}
use Rattle.protocol.specs.declared.Refusal.{Refusal}
use Rattle.protocol.specs.declared.Refusal.TheVariants.{CutFromItself, Down, IsUp, OutOfRange}
use Rattle.protocol.specs.declared.Reply.TheVariants.{None}
use Rattle.tables.specs.View.{Sized, pack, pack_partition, partition_at, view}
use Rattle.tables.specs.declared.Partition.{Partition}
use Rattle.tables.specs.declared.Tables.{Tables}
use Rattle.answers.specs.Called.{Ready, accepted_with, called, refused_with, stored}
use Rattle.answers.specs.declared.Answered.{Answered}
use Rattle.losses.specs.Lost.{lost}
use Rattle.losses.specs.declared.Loss.TheVariants.{Crash, Cut}
use Rattle.std.specs.Prelude.{Ok, Err}
use Rattle.faults.specs.Suffered.{suffered}
use Rattle.lists.proofs.Tests.{and_right, both_true}
use Rattle.answers.proofs.Applied.{changed-to}
use Rattle.answers.specs.Change.{applied, changes_with}
use Rattle.answers.specs.declared.changes.Change.{Change}
use Rattle.tables.proofs.Stored.{partition-stored}
use Rattle.answers.proofs.Ways.{accepts, passes, read-four, read_up, ready-stored, ready-test, ready-there, refuses}

module _ (t : Tables) (z : Sized t) (r : Ready t) where
  -- whether partition p is there, and whether it is up: it was found at i
  apart : (p : ℕ) (b : Bool) → ltb p t.count ≡ b → is_partition (view t) p ≡ b
  apart p b f = ready-test t p z r _ refl ∙ f

  told : (p i : ℕ) → i ≡ p → ltb p t.count ≡ true → (b : Bool) → (partition_at t i).up ≡ b → (partition (view t) p).up ≡ b
  told p i e f b u = read_up t p z r (ltb-true _ _ f) (partition_at t p) refl ∙ ap (λ (y : ℕ). (partition_at t y).up) (sym e) ∙ u

  pub found-four : (p i : ℕ) → i ≡ p → ltb p t.count ≡ true → i < max_partitions
  found-four p i e f = rw e (read-four t p z r (ltb-true _ _ f))

  -- ---- cut

  module _ (p q : ℕ) where
    pub cut-outside : ltb p t.count ≡ false → (why : Refusal) → why ≡ OutOfRange → suffered t (Err why) ≡ stored t (cut (view t) p q)
    unfolding cut
    cut-outside f why w = ap (refused_with t) w ∙ refuses t _ OutOfRange _ _ refl (rw (apart p false f) refl)

    pub cut-beyond : ltb q t.count ≡ false → (why : Refusal) → why ≡ OutOfRange → suffered t (Err why) ≡ stored t (cut (view t) p q)
    unfolding cut
    cut-beyond f why w = ap (refused_with t) w ∙ refuses t _ OutOfRange _ _ refl (rw (apart q false f) (and-false (is_partition (view t) p)))

    -- both are there
    module _ (f : ltb p t.count ≡ true) (g : ltb q t.count ≡ true) (i j : ℕ) (e : i ≡ p) (k : j ≡ q) where
      both-there : (is_partition (view t) p && is_partition (view t) q) ≡ true
      both-there = both_true (apart p true f) (apart q true g)

      pub cut-itself : i ≡ j → suffered t (Err CutFromItself) ≡ stored t (cut (view t) p q)
      unfolding cut
      cut-itself h = refuses t _ CutFromItself _ _ refl (ap not (eq-eqb p q (sym e ∙ h ∙ k))) ∙ passes t _ OutOfRange _ _ both-there

      -- and they are two
      module _ (n : i ≡ j → ⊥) where
        abbrev both_up : Bool
        both_up = (partition (view t) p).up && (partition (view t) q).up

        onwards : (a : Answered) → a ≡ stored t (check both_up Down (view t) (accept 0 None (lose (sent_between p q) (between p q) (view t)))) → a ≡ stored t (cut (view t) p q)
        unfolding cut
        onwards a w = w ∙ passes t _ CutFromItself _ _ (ap not (ne_eqb p q (λ h. n (e ∙ h ∙ sym k)))) ∙ passes t _ OutOfRange _ _ both-there

        down : both_up ≡ false → (why : Refusal) → why ≡ Down → suffered t (Err why) ≡ stored t (cut (view t) p q)
        down d why w = onwards _ (ap (refused_with t) w ∙ refuses t _ Down _ _ refl d)

        pub cut_down : (partition_at t i).up ≡ false → (why : Refusal) → why ≡ Down → suffered t (Err why) ≡ stored t (cut (view t) p q)
        cut_down u why w = down (rw (told p i e f false u) refl) why w

        pub cut-far-down : (partition_at t j).up ≡ false → (why : Refusal) → why ≡ Down → suffered t (Err why) ≡ stored t (cut (view t) p q)
        cut-far-down u why w = down (rw (told q j k g false u) (and-false (partition (view t) p).up)) why w

        pub cut-done : (partition_at t i).up ≡ true → (partition_at t j).up ≡ true → suffered t (Ok (Cut i j)) ≡ stored t (cut (view t) p q)
        unfolding lost
        cut-done u v = rw (e, k) (onwards _ (accepts t _ 0 None _ refl ∙ passes t _ Down _ _ (both_true (told p i e f true u) (told q j k g true v))))

  -- ---- crash

  module _ (p : ℕ) where
    pub crash-outside : ltb p t.count ≡ false → (why : Refusal) → why ≡ OutOfRange → suffered t (Err why) ≡ stored t (crash (view t) p)
    unfolding crash
    crash-outside f why w = ap (refused_with t) w ∙ refuses t _ OutOfRange _ _ refl (apart p false f)

    module _ (f : ltb p t.count ≡ true) (i : ℕ) (e : i ≡ p) where
      pub crash-down : (partition_at t i).up ≡ false → (why : Refusal) → why ≡ Down → suffered t (Err why) ≡ stored t (crash (view t) p)
      unfolding crash
      crash-down u why w = ap (refused_with t) w ∙ refuses t _ Down _ _ refl (told p i e f false u) ∙ passes t _ OutOfRange _ _ (apart p true f)

      pub crash-done : (partition_at t i).up ≡ true → suffered t (Ok (Crash i)) ≡ stored t (crash (view t) p)
      unfolding crash lost
      crash-done u = rw e (accepts t _ 0 None _ refl ∙ passes t _ Down _ _ (told p i e f true u) ∙ passes t _ OutOfRange _ _ (apart p true f))

module _ (t : Tables) (z : Sized t) (r : Ready t) (a : Answered) where
  -- ---- recover: whether partition p is there, by the test b

  pub recover-outside : (p : ℕ) (b : Bool) → b ≡ ltb p t.count → b ≡ false → a ≡ refused_with t OutOfRange → a ≡ stored t (recover (view t) p)
  unfolding recover
  recover-outside p b e f k = k ∙ refuses t _ OutOfRange _ _ refl (ready-test t p z r b e ∙ f)

  -- ---- recover of partition p, which was read as x

  module _ (p : ℕ) (h : p < t.count) (x : Partition) (e : x ≡ partition_at t p) where
    pub recover-up : x.up ≡ true → a ≡ refused_with t IsUp → a ≡ stored t (recover (view t) p)
    unfolding recover
    recover-up d w = w ∙ refuses t _ IsUp _ _ refl (ap not (read_up t p z r h x e ∙ d)) ∙ passes t _ OutOfRange _ _ (ready-there t p z r h)

-- a recovery of partition p, which was read as x
module _ (t : Tables) (z : Sized t) (r : Ready t) (p : ℕ) (h : p < t.count) (x : Partition) (e : x ≡ partition_at t p) where
  pub recover-done : (c : Change) → x.up ≡ false → c ≡ changes_with p (record { up = true; last = x.last; entries = x.entries; backpointers = x.backpointers; records = x.records }) 0 None
      → applied t c ≡ stored t (recover (view t) p)
  unfolding recover set_up
  recover-done c d w =
      let k : x ≡ pack_partition (partition (view t) p) = e ∙ partition-stored t p (ready-stored t p z r h) in
      changed-to t p (ready-stored t p z r h) _ (with_up true (partition (view t) p)) (rw k refl) 0 None c w
      ∙ passes t _ IsUp _ _ (ap not (read_up t p z r h x e ∙ d)) ∙ passes t _ OutOfRange _ _ (ready-there t p z r h)

-- ---- open, by the test b of the count

module _ (t : Tables) (k : ℕ) (b : Bool) (e : b ≡ (leb 1 k && leb k max_partitions)) where
  pub open-four : b ≡ true → k ≤ max_partitions
  open-four f = leb-true _ _ (and_right (leb 1 k) _ (sym e ∙ f))

  untested : stored t (open_tables (view t) k) ≡ called t (opening k)
  unfolding called apply bare check
  untested = rw or-true refl

  module _ (a : Answered) where
    pub open-refused : b ≡ false → a ≡ refused_with t OutOfRange → a ≡ called t (opening k)
    unfolding open_tables
    open-refused f w = w ∙ refuses t _ OutOfRange _ _ refl (sym e ∙ f) ∙ untested

    pub open_done : (u : Tables) → b ≡ true → u ≡ pack (fresh k) → a ≡ accepted_with u 0 None → a ≡ called t (opening k)
    unfolding open_tables
    open_done u f v w = w ∙ accepts t u 0 None _ v ∙ passes t _ OutOfRange _ _ (sym e ∙ f) ∙ untested

pub ruleset recovers = (recover-outside, recover-up, recover-done)

pub ruleset opens = (open-four, open-refused, open_done)
