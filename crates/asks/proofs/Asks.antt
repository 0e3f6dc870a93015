-- The ways through link and create, in plain variables.
use mathlib.Core.Bool.{Bool, ◌&&◌, false, true}
use mathlib.Core.List.{[], ◌++◌, ◌∷◌}
use mathlib.Core.Path.{◌∙◌, ◌≡◌, ap, refl, sym}
use Prim.Native.Nat.{◌+◌, ◌<◌, ◌^◌, ◌≤◌, suc, ℕ}
use native.Mathlib.Omega.{arith}
use native.Mathlib.Numerals.{add-one}
use lib.Dec.{ltb}
use lib.ListN.{get_or, length}
use lib.Seq.{set-set}
use borrow.Author.Tests.{le-ltb, lt-ltb, ltb-true}
use Rattle.lists.specs.Lists.{every, is_none, keep}
use Rattle.names.specs.Names.{good_name}
use Rattle.names.specs.declared.Name.{Name}
use Rattle.protocol.specs.Ask.{ask, ask_tables, asked, open_ask}
use Rattle.protocol.specs.Answers.{Outcome, accept, check}
use Rattle.protocol.specs.Bounds.{directories, largest_number, max_entries, max_records, objects}
use Rattle.protocol.specs.Order.{in_range}
use Rattle.protocol.specs.Tables.{Model, change_records, claimed, give_number, is_directory, is_object, is_partition, open_record, partition, partition_count, set_partition, stands_under, unentered, with_last, with_records, Partition as Part}
use Rattle.protocol.specs.declared.Kind.{Kind}
use Rattle.protocol.specs.declared.Record.{Record}
use Rattle.protocol.specs.declared.Refusal.TheVariants.{BadName, Down, EntriesFull, LogFull, NameExists, NumbersSpent, OutOfRange}
use Rattle.protocol.specs.declared.Reply.TheVariants.{None}
use Rattle.tables.specs.View.{Sized, Stored, entries_of, pack_partition, pack_records, partition_at, records_of, view, view_partition, Records}
use Rattle.tables.specs.declared.Partition.{Partition}
use Rattle.tables.specs.declared.Tables.{Tables}
use Rattle.answers.specs.Called.{Ready, refused_with, stored}
use Rattle.answers.specs.Change.{applied, changes_with}
use Rattle.answers.specs.declared.Answered.{Answered}
use Rattle.answers.specs.declared.changes.Change.{Change}
use Rattle.asks.specs.Asked.{Opens, Placed}
use Rattle.lists.proofs.Tests.{both_true, every-at}
use Rattle.protocol.proofs.Look.{part_same}
use Rattle.tables.proofs.Stored.{partition-stored, records-stored}
use Rattle.answers.proofs.Applied.{changed-to}
use Rattle.answers.proofs.Ways.{passes, read_count, read_up, read_view, ready-count, ready-stored, ready-test, ready-there, ready-view, refuses}

module _ (t : Tables) (z : Sized t) (r : Ready t) (k : Kind) (p d : ℕ) (s : Name) (q o : ℕ) where
  -- ---- by the arguments

  module _ (h : p < t.count) (b : Bool) (e : b ≡ every (is_directory d ∷ ltb q t.count ∷ is_object o ∷ [])) where
    same : b ≡ in_range (view t) d q o
    unfolding in_range
    same = e ∙ rw (ready-view t z r) refl

    pub ask-unplaced : (a : Answered) → b ≡ false → a ≡ refused_with t OutOfRange → a ≡ stored t (ask k (view t) p d s q o)
    unfolding ask
    ask-unplaced a f w = w ∙ refuses t _ OutOfRange _ _ refl (rw (ready-there t p z r h) (sym same ∙ f))

  pub ask-placed : (b : Bool) → b ≡ every (is_directory d ∷ ltb q t.count ∷ is_object o ∷ []) → b ≡ true → Placed t d q o
  unfolding in_range
  ask-placed b e y =
      let rest : (i : ℕ) → get_or (is_directory d ∷ ltb q t.count ∷ is_object o ∷ []) i true ≡ true = λ i. every-at _ (sym e ∙ y) i in
      let f = ready-count t z r in
      let g = ltb-true d directories (rest 0) in
      let h = ltb-true q t.count (rest 1) in
      let j = ltb-true o objects (rest 2) in
      record { directory = omega arith; owner = omega arith; object = omega arith; test = rw (ready-view t z r) (sym e ∙ y) }

  -- partition p is not there, by the test that was made
  pub ask-not-there : (a : Answered) (b : Bool) → b ≡ ltb p t.count → b ≡ false → a ≡ refused_with t OutOfRange → a ≡ stored t (ask k (view t) p d s q o)
  unfolding ask
  ask-not-there a b e f h = h ∙ refuses t _ OutOfRange _ _ refl (rw (ready-test t p z r b e, f) refl)

pub ruleset asks = (ask-unplaced, ask-placed)

module _ (t : Tables) (z : Sized t) (r : Ready t) (k : Kind) (p d : ℕ) (s : Name) (q o : ℕ) (h : p < t.count) (y : Placed t d q o) where
  there : (is_partition (view t) p && in_range (view t) d q o) ≡ true
  there = both_true (ready-there t p z r h) y.test

  pub ask-misnamed : (a : Answered) (c : Bool) → c ≡ good_name s → c ≡ false → a ≡ refused_with t BadName → a ≡ stored t (ask k (view t) p d s q o)
  unfolding ask
  ask-misnamed a c g f v = v ∙ refuses t _ BadName _ _ refl (sym g ∙ f) ∙ passes t _ OutOfRange _ _ there

  module _ (a : Answered) (c : Bool) (g : c ≡ good_name s) (n : c ≡ true) (x : Partition) (w : x ≡ partition_at t p) where
    pub ask-down : x.up ≡ false → a ≡ refused_with t Down → a ≡ stored t (ask k (view t) p d s q o)
    unfolding ask
    ask-down u v = v ∙ refuses t _ Down _ _ refl (read_up t p z r h x w ∙ u) ∙ passes t _ BadName _ _ (sym g ∙ n) ∙ passes t _ OutOfRange _ _ there

    pub ask-goes : x.up ≡ true → a ≡ stored t (ask_tables k (view t) p d s q o) → a ≡ stored t (ask k (view t) p d s q o)
    unfolding ask
    ask-goes u v = v ∙ passes t _ Down _ _ (read_up t p z r h x w ∙ u) ∙ passes t _ BadName _ _ (sym g ∙ n) ∙ passes t _ OutOfRange _ _ there

pub ruleset askplaces = (ask-misnamed, ask-down, ask-goes)

-- ---- by the tables of p: x was read there

module _ (t : Tables) (z : Sized t) (r : Ready t) (p : ℕ) (h : p < t.count) (x : Partition) (e : x ≡ partition_at t p) (k : Kind) (d : ℕ) (s : Name) (q o : ℕ) where
  seen : partition (view t) p ≡ view_partition x
  seen = read_view t p z r h x e

  abbrev free : Bool → Type 0
  free b = b ≡ is_none (keep (stands_under d s) (entries_of x.entries))

  free-view : (b : Bool) → free b → is_none (keep (stands_under d s) (partition (view t) p).entries) ≡ b
  free-view b f = rw seen (sym f)

  pub tables-taken : (a : Answered) (b : Bool) → free b → b ≡ false → a ≡ refused_with t NameExists → a ≡ stored t (ask_tables k (view t) p d s q o)
  unfolding ask_tables
  tables-taken a b f y g = g ∙ refuses t _ NameExists _ _ refl (free-view b f ∙ y)

  module _ (b : Bool) (f : free b) (y : b ≡ true) where
    named : (w : Outcome) → stored t w ≡ stored t (check (is_none (keep (stands_under d s) (partition (view t) p).entries)) NameExists (view t) w)
    named w = passes t _ NameExists _ w (free-view b f ∙ y)

    pub tables-spent : (a : Answered) → largest_number ≤ x.last → a ≡ refused_with t NumbersSpent → a ≡ stored t (ask_tables k (view t) p d s q o)
    unfolding ask_tables
    tables-spent a l g = g ∙ refuses t _ NumbersSpent _ _ refl (rw seen (le-ltb _ _ l)) ∙ named _

    module _ (l : x.last < largest_number) where
      numbered : (w : Outcome) → stored t w ≡ stored t (check (ltb (partition (view t) p).last largest_number) NumbersSpent (view t) w)
      numbered w = passes t _ NumbersSpent _ w (rw seen (lt-ltb _ _ l))

      counted : length (partition (view t) p).records ≡ x.records.count
      counted = read_count t p z r h x e

      pub tables-full : (a : Answered) → max_records ≤ x.records.count → a ≡ refused_with t LogFull → a ≡ stored t (ask_tables k (view t) p d s q o)
      unfolding ask_tables
      tables-full a c g = g ∙ refuses t _ LogFull _ _ refl (rw counted (le-ltb _ _ c)) ∙ numbered _ ∙ named _

      module _ (c : x.records.count < max_records) (n : ℕ) (v : n ≡ length (entries_of x.entries) + length (keep (unentered (entries_of x.entries)) (records_of x.records))) where
        sum : claimed (partition (view t) p) ≡ n
        unfolding claimed
        sum = rw seen (sym v)

        pub tables-claimed : (a : Answered) → max_entries ≤ n → a ≡ refused_with t EntriesFull → a ≡ stored t (ask_tables k (view t) p d s q o)
        unfolding ask_tables
        tables-claimed a w g = g ∙ refuses t _ EntriesFull _ _ refl (rw sum (le-ltb _ _ w)) ∙ passes t _ LogFull _ _ (rw counted (lt-ltb _ _ c)) ∙ numbered _ ∙ named _

        pub tables-open : (a : Answered) → n < max_entries → a ≡ stored t (open_ask k (view t) p d s q o) → a ≡ stored t (ask_tables k (view t) p d s q o)
        unfolding ask_tables
        tables-open a w g = g ∙ passes t _ EntriesFull _ _ (rw sum (lt-ltb _ _ w)) ∙ passes t _ LogFull _ _ (rw counted (lt-ltb _ _ c)) ∙ numbered _ ∙ named _

pub opens : (t : Tables) (p : ℕ) (x : Partition) → x ≡ partition_at t p → x.last < largest_number → x.records.count < max_records → Opens t p
opens t p x e l c = record { last = rw (← e) l; records = rw (← e) c }

-- tables-claimed and tables-open are cited by name: there so much is known that `search` breaks off when it tries every way
pub ruleset asktables = (tables-taken, tables-spent, tables-full, opens)

-- ---- the number is given and the record opened: of the two changes of one partition the last one stays

set_last : (m : Model) (p : ℕ) (a b : Part) → set_partition (set_partition m p a) p b ≡ set_partition m p b
unfolding set_partition
set_last m p a b = λ i. record { partitions = set-set m.partitions p a b i; queues = m.queues }

opened-last : (m : Model) (p : ℕ) (a : Part) (c : Record) → p < partition_count m → open_record (set_partition m p a) p c ≡ set_partition m p (with_records a (a.records ++ c ∷ []))
unfolding change_records
opened-last m p a c h =
    ap (λ (i : Part). set_partition (set_partition m p a) p (with_records i (i.records ++ c ∷ []))) (part_same m p a h)
    ∙ set_last m p a (with_records a (a.records ++ c ∷ []))

-- x was read at p

module _ (t : Tables) (z : Sized t) (r : Ready t) (p : ℕ) (h : p < t.count) (x : Partition) (e : x ≡ partition_at t p) where
  pub open-records : pack_records (records_of x.records) ≡ x.records
  open-records = records-stored t p (ready-stored t p z r h) x e

  pub open-room : Opens t p → x.records.count < max_records
  open-room y = rw e y.records

  -- the number that is given is one of the type's
  pub open-number : Opens t p → x.last + 1 < 2 ^ 32
  open-number y = let l : x.last < largest_number = rw e y.last in omega arith

  pub opened-ask : (k : Kind) (d : ℕ) (s : Name) (q o n : ℕ) (c : Record) (l : Records) (w : Change)
      → n ≡ x.last + 1 → c ≡ asked k d s q o n → l ≡ pack_records (records_of x.records ++ c ∷ [])
      → w ≡ changes_with p (record { up = x.up; last = n; entries = x.entries; backpointers = x.backpointers; records = l }) n None → applied t w ≡ stored t (open_ask k (view t) p d s q o)
  unfolding give_number
  opened-ask k d s q o n c l w hn hc hl hw =
      let m = view t in
      let g : Stored t p = ready-stored t p z r h in
      let y : partition m p ≡ view_partition x = read_view t p z r h x e in
      let v : n ≡ suc (partition m p).last = hn ∙ add-one x.last ∙ ap (λ (i : Part). suc i.last) (sym y) in
      let f : x ≡ pack_partition (partition m p) = e ∙ partition-stored t p g in
      let b : l ≡ pack_records ((partition m p).records ++ c ∷ []) = hl ∙ ap (λ (i : Part). pack_records (i.records ++ c ∷ [])) (sym y) in
      let u : (i : Part) → set_partition m p (with_records i (i.records ++ c ∷ [])) ≡ open_record (set_partition m p i) p c = λ i. sym (opened-last m p i c (rw (ready-view t z r) h)) in
      changed-to t p g _ (with_records (with_last n (partition m p)) ((partition m p).records ++ c ∷ [])) (rw (f, b) refl) n None w hw
      ∙ ap (λ (i : Model). stored t (accept n None i)) (u (with_last n (partition m p)))
      ∙ rw (hc, v) refl

pub ruleset opening = (open-records, open-room, open-number, opened-ask)
