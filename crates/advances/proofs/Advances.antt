-- The ways through advance, in plain variables: the partition, the record, its next step.
use mathlib.Core.Bool.{Bool, false, true}
use mathlib.Core.List.{[], ◌∷◌}
use mathlib.Core.Path.{◌∙◌, ◌≡◌, ap, refl, sym}
use Prim.Native.Nat.{◌<◌, ℕ}
use native.Mathlib.Omega.{arith}
use lib.Dec.{ltb}
use lib.ListN.{get_or}
use Rattle.std.specs.Prelude.{None, Option, Some}
use Rattle.lists.specs.Lists.{first_at, is_some, keep}
use Rattle.protocol.specs.Advance.{advance, advance_found, next, next_of, perform}
use Rattle.protocol.specs.Bounds.{max_records}
use Rattle.protocol.specs.Tables.{entry_bears, partition, record_bears, stands_under, Partition as Part}
use Rattle.protocol.specs.declared.Next.{Next}
use Rattle.protocol.specs.declared.Record.{Record}
use Rattle.protocol.specs.declared.Refusal.TheVariants.{Down, NoRecord, OutOfRange}
use Rattle.tables.specs.Slots.{no_record}
use Rattle.tables.specs.View.{Sized, entries_of, partition_at, records_of, view, view_partition}
use Rattle.tables.specs.declared.Partition.{Partition}
use Rattle.tables.specs.declared.Tables.{Tables}
use Rattle.answers.specs.Called.{Ready, refused_with, stored}
use Rattle.answers.specs.declared.Answered.{Answered}
use Rattle.advances.specs.Opened.{OpenAt}
use Rattle.lists.proofs.Finds.{found_below, found-kept, none_kept}
use Rattle.answers.proofs.Ways.{now-four, now-there, passes, read-four, read-records, read_up, read_view, ready-test, ready-there, refuses}

module _ (t : Tables) (z : Sized t) (r : Ready t) (p : ℕ) (h : p < t.count) (x : Partition) (e : x ≡ partition_at t p) where
  seen : partition (view t) p ≡ view_partition x
  seen = read_view t p z r h x e

  abbrev Nexts : Record → Next → Type 0
  Nexts c s =
      s ≡ next_of c.kind c.stage (is_some (keep (entry_bears c.number) (entries_of x.entries))) (is_some (keep (stands_under c.directory c.name) (entries_of x.entries)))

  pub advance-next : (c : Record) (s : Next) → Nexts c s → s ≡ next (partition (view t) p) c
  unfolding next
  advance-next c s q = q ∙ rw seen refl

  -- the record c, read at place i
  module _ (i : ℕ) (c : Record) (v : c ≡ get_or x.records.items i no_record) where
    place : c ≡ get_or (partition_at t p).records.items i no_record
    place = v ∙ ap (λ (y : Partition). get_or y.records.items i no_record) e

    pub advance-open : i < (partition_at t p).records.count → OpenAt t p i c
    advance-open b = record { partition = h; four = read-four t p z r h; place = b; read = place }

    pub advance-takes : (a : Answered) (s : Next) → Nexts c s → a ≡ stored t (perform (view t) p c s)
        → a ≡ stored t (advance_found (view t) p (get_or (partition_at t p).records.items i no_record ∷ []))
    advance-takes a s q k =
        k ∙ ap (λ (y : Next). stored t (perform (view t) p c y)) (advance-next c s q)
        ∙ ap (λ (y : Record). stored t (advance_found (view t) p (y ∷ []))) place

  -- the record is looked for by its number
  module _ (n : ℕ) (f : Option ℕ) (g : f ≡ first_at (record_bears n) (records_of x.records)) where
    abbrev Goal : Answered → Type 0
    Goal a = a ≡ stored t (advance_found (view t) p (keep (record_bears n) (partition (view t) p).records))

    pub advance-missing : (a : Answered) → f ≡ None → a ≡ refused_with t NoRecord → Goal a
    unfolding stored
    advance-missing a q k = k ∙ rw (seen, none_kept (record_bears n) 0 (records_of x.records) (sym g ∙ q)) refl

    pub advance-at : (i : ℕ) → f ≡ Some i → i < (partition_at t p).records.count
    advance-at i q = rw (← e) (found_below (record_bears n) x.records.items x.records.count i f g q no_record)

    pub advance-below : (i : ℕ) → f ≡ Some i → i < max_records
    advance-below i q = let k = read-records t p z r h x e in let b = found_below (record_bears n) x.records.items x.records.count i f g q no_record in omega arith

    pub advance-found : (a : Answered) (i : ℕ) → f ≡ Some i → a ≡ stored t (advance_found (view t) p (get_or (partition_at t p).records.items i no_record ∷ [])) → Goal a
    advance-found a i q k =
        let w = found-kept (record_bears n) x.records.items x.records.count i f g q no_record in
        let l : keep (record_bears n) (partition (view t) p).records ≡ get_or x.records.items i no_record ∷ w.0 =
        ap (λ (j : Part). keep (record_bears n) j.records) seen ∙ w.1
        in
        k ∙ ap (λ (y : Partition). stored t (advance_found (view t) p (get_or y.records.items i no_record ∷ []))) (sym e) ∙ rw l refl

  -- the partition is up, or down
  pub advance-down : (n : ℕ) (a : Answered) → x.up ≡ false → a ≡ refused_with t Down → a ≡ stored t (advance (view t) p n)
  unfolding advance
  advance-down n a u k = k ∙ refuses t _ Down _ _ refl (read_up t p z r h x e ∙ u) ∙ passes t _ OutOfRange _ _ (ready-there t p z r h)

  pub advance-goes : (n : ℕ) (a : Answered) → x.up ≡ true → a ≡ stored t (advance_found (view t) p (keep (record_bears n) (partition (view t) p).records))
      → a ≡ stored t (advance (view t) p n)
  unfolding advance
  advance-goes n a u k = k ∙ passes t _ Down _ _ (read_up t p z r h x e ∙ u) ∙ passes t _ OutOfRange _ _ (ready-there t p z r h)

-- the partition is there, or not
module _ (t : Tables) (z : Sized t) (r : Ready t) (p : ℕ) (b : Bool) (e : b ≡ ltb p t.count) where
  pub advance-outside : (n : ℕ) (a : Answered) → b ≡ false → a ≡ refused_with t OutOfRange → a ≡ stored t (advance (view t) p n)
  unfolding advance
  advance-outside n a f k = k ∙ refuses t _ OutOfRange _ _ refl (ready-test t p z r b e ∙ f)

pub ruleset records-advanced = (advance-open, advance-next, advance-takes)

pub ruleset records-sought = (advance-missing, advance-at, advance-below, advance-found)

pub ruleset advances = (advance-down, advance-goes)

pub ruleset there = (now-there, now-four, advance-outside)
