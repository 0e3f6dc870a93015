-- The ways through unlink, in plain variables.
use mathlib.Core.Bool.{Bool, ◌&&◌, false, true}
use mathlib.Core.List.{List, [], ◌++◌, ◌∷◌}
use mathlib.Core.Path.{◌∙◌, ◌≡◌, ap, refl, sym}
use Prim.Native.Nat.{◌<◌, ◌≤◌, ℕ}
use native.Mathlib.Omega.{arith}
use lib.Dec.{ltb}
use lib.ListN.{get_or}
use borrow.Author.Tests.{le-ltb, lt-ltb, ltb-true}
use Rattle.std.specs.Prelude.{None, Option, Some}
use Rattle.lists.specs.Lists.{first_at, is_none, keep}
use Rattle.names.specs.Names.{good_name}
use Rattle.names.specs.declared.Name.{Name}
use Rattle.protocol.specs.Answers.{accept}
use Rattle.protocol.specs.Ask.{unlink, unlink_found, unlink_of}
use Rattle.protocol.specs.Bounds.{directories, max_records}
use Rattle.protocol.specs.Tables.{is_partition, is_directory, open_record, partition, record_bears, stands_under, Partition as Part}
use Rattle.protocol.specs.declared.Entry.{Entry}
use Rattle.protocol.specs.declared.Record.{Record}
use Rattle.protocol.specs.declared.Refusal.TheVariants.{BadName, Down, LogFull, NameAbsent, OutOfRange, RecordOpen}
use Rattle.protocol.specs.declared.Reply.TheVariants.{None as NoReply}
use Rattle.tables.specs.Slots.{no_entry}
use Rattle.tables.specs.View.{Sized, entries_of, pack_records, partition_at, records_of, view, view_partition, Records}
use Rattle.tables.specs.declared.Partition.{Partition}
use Rattle.tables.specs.declared.Tables.{Tables}
use Rattle.answers.specs.Called.{Ready, refused_with, stored}
use Rattle.answers.specs.Change.{applied, changes_with}
use Rattle.answers.specs.declared.Answered.{Answered}
use Rattle.answers.specs.declared.changes.Change.{Change}
use Rattle.lists.proofs.Finds.{found-kept, none_kept}
use Rattle.lists.proofs.Tests.{both_true}
use Rattle.answers.proofs.Applied.{records-change}
use Rattle.answers.proofs.Ways.{passes, read_count, read_up, read_view, ready-stored, ready-test, ready-there, refuses}

-- ---- by the arguments

-- partition p is not there, by the test that was made
pub unlink-not-there : (t : Tables) → Sized t → Ready t → (p d : ℕ) (s : Name) (a : Answered) (b : Bool) → b ≡ ltb p t.count → b ≡ false → a ≡ refused_with t OutOfRange
    → a ≡ stored t (unlink (view t) p d s)
unfolding unlink
unlink-not-there t z r p d s a b e f h = h ∙ refuses t _ OutOfRange _ _ refl (rw (ready-test t p z r b e, f) refl)

module _ (t : Tables) (z : Sized t) (r : Ready t) (p d : ℕ) (s : Name) (h : p < t.count) where
  pub unlink-unplaced : (a : Answered) → directories ≤ d → a ≡ refused_with t OutOfRange → a ≡ stored t (unlink (view t) p d s)
  unfolding unlink
  unlink-unplaced a f w = w ∙ refuses t _ OutOfRange _ _ refl (rw (ready-there t p z r h, le-ltb _ _ f) refl)

  module _ (y : d < directories) where
    there : (is_partition (view t) p && is_directory d) ≡ true
    there = both_true (ready-there t p z r h) (lt-ltb _ _ y)

    pub unlink-misnamed : (a : Answered) (c : Bool) → c ≡ good_name s → c ≡ false → a ≡ refused_with t BadName → a ≡ stored t (unlink (view t) p d s)
    unfolding unlink
    unlink-misnamed a c g f v = v ∙ refuses t _ BadName _ _ refl (sym g ∙ f) ∙ passes t _ OutOfRange _ _ there

    module _ (a : Answered) (c : Bool) (g : c ≡ good_name s) (n : c ≡ true) (x : Partition) (w : x ≡ partition_at t p) where
      pub unlink-down : x.up ≡ false → a ≡ refused_with t Down → a ≡ stored t (unlink (view t) p d s)
      unfolding unlink
      unlink-down u v = v ∙ refuses t _ Down _ _ refl (read_up t p z r h x w ∙ u) ∙ passes t _ BadName _ _ (sym g ∙ n) ∙ passes t _ OutOfRange _ _ there

      pub unlink-goes : x.up ≡ true → (d' : ℕ) → d' ≡ d → a ≡ stored t (unlink_found (view t) p (keep (stands_under d' s) (partition (view t) p).entries)) → a ≡ stored t (unlink (view t) p d s)
      unfolding unlink
      unlink-goes u d' i v = (rw i at v) ∙ passes t _ Down _ _ (read_up t p z r h x w ∙ u) ∙ passes t _ BadName _ _ (sym g ∙ n) ∙ passes t _ OutOfRange _ _ there

pub ruleset unlinkplaces = (unlink-unplaced, unlink-misnamed, unlink-down, unlink-goes)

-- ---- by the tables of p: x was read there

module _ (t : Tables) (z : Sized t) (r : Ready t) (p : ℕ) (h : p < t.count) (x : Partition) (e : x ≡ partition_at t p) where
  seen : partition (view t) p ≡ view_partition x
  seen = read_view t p z r h x e

  -- the name is absent, or an entry stands under it
  module _ (d : ℕ) (s : Name) (f : Option ℕ) (g : f ≡ first_at (stands_under d s) (entries_of x.entries)) where
    abbrev Goal : Answered → Type 0
    Goal a = a ≡ stored t (unlink_found (view t) p (keep (stands_under d s) (partition (view t) p).entries))

    pub unlink-absent : (a : Answered) → f ≡ None → a ≡ refused_with t NameAbsent → Goal a
    unfolding stored
    unlink-absent a n q = q ∙ rw (seen, none_kept (stands_under d s) 0 (entries_of x.entries) (sym g ∙ n)) refl

    pub unlink-stands : (a : Answered) (i : ℕ) (y : Entry) → f ≡ Some i → y ≡ get_or x.entries.items i no_entry → a ≡ stored t (unlink_found (view t) p (y ∷ [])) → Goal a
    unlink-stands a i y n v q =
        let w = found-kept (stands_under d s) x.entries.items x.entries.count i f g n no_entry in
        let k : keep (stands_under d s) (partition (view t) p).entries ≡ y ∷ w.0 =
        ap (λ (j : Part). keep (stands_under d s) j.entries) seen ∙ w.1 ∙ ap (λ (j : Entry). j ∷ w.0) (sym v)
        in
        q ∙ ap (λ (es : List Entry). stored t (unlink_found (view t) p es)) (sym k)

  module _ (y : Entry) (b : Bool) (f : b ≡ is_none (keep (record_bears y.number) (records_of x.records))) where
    unopened : is_none (keep (record_bears y.number) (partition (view t) p).records) ≡ b
    unopened = rw seen (sym f)

    pub unlink-open : (a : Answered) → b ≡ false → a ≡ refused_with t RecordOpen → a ≡ stored t (unlink_found (view t) p (y ∷ []))
    unlink-open a n q = q ∙ refuses t _ RecordOpen _ _ refl (unopened ∙ n)

    pub unlink-full : (a : Answered) → b ≡ true → max_records ≤ x.records.count → a ≡ refused_with t LogFull → a ≡ stored t (unlink_found (view t) p (y ∷ []))
    unlink-full a n c q = q ∙ refuses t _ LogFull _ _ refl (rw (read_count t p z r h x e) (le-ltb _ _ c)) ∙ passes t _ RecordOpen _ _ (unopened ∙ n)

    pub unlink-opens : (a : Answered) → b ≡ true → x.records.count < max_records → a ≡ stored t (accept y.number NoReply (open_record (view t) p (unlink_of y)))
        → a ≡ stored t (unlink_found (view t) p (y ∷ []))
    unlink-opens a n c q = q ∙ passes t _ LogFull _ _ (rw (read_count t p z r h x e) (lt-ltb _ _ c)) ∙ passes t _ RecordOpen _ _ (unopened ∙ n)

  pub unlink-room : x.records.count < max_records → (partition_at t p).records.count < max_records
  unlink-room c = rw (← e) c

  pub open-room-here : (partition_at t p).records.count < max_records → x.records.count < max_records
  open-room-here c = rw e c

  pub opened-unlink : (y : Entry) (c : Record) (l : Records) (w : Change) → c ≡ unlink_of y → l ≡ pack_records (records_of x.records ++ c ∷ [])
      → w ≡ changes_with p (record { up = x.up; last = x.last; entries = x.entries; backpointers = x.backpointers; records = l }) y.number NoReply
      → applied t w ≡ stored t (accept y.number NoReply (open_record (view t) p (unlink_of y)))
  opened-unlink y c l w hc hl hw = records-change t p (ready-stored t p z r h) x e (λ k. k ++ unlink_of y ∷ []) l (hl ∙ rw (seen, hc) refl) y.number NoReply w hw

pub ruleset unlinktables = (unlink-absent, unlink-stands, unlink-open, unlink-full, unlink-opens, unlink-room, open-room-here, opened-unlink)
