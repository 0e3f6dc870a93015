-- Shaped tables are the stored form of what they mean, `pack (view t) ≡ t`, so that two with one view are equal; and every model
-- comes back from its stored form, `view (pack m) ≡ m`.
use mathlib.Core.Bool.{Bool, ◌&&◌, false, true}
use mathlib.Core.List.{List, map}
use mathlib.Core.Path.{◌∙◌, ◌≡◌, ap, refl, sym}
use Prim.Native.Nat.{◌+◌, ◌<◌, ◌≤◌, ℕ}
use native.Mathlib.Omega.{arith}
use lib.Dec.{eqb}
use lib.ListN.{drop, length, length-drop, length-map, replicate, take}
use lib.Seq.{get_or-drop, get_or-take, length-take-le}
use borrow.Author.Tests.{eqb-true}
use Rattle.lists.specs.Lists.{pad}
use Rattle.names.specs.Names.{same_name, zero_name}
use Rattle.protocol.specs.Bounds.{max_backpointers, max_entries, max_messages, max_partitions, max_records, queue_count}
use Rattle.protocol.specs.Elements.{is_ready, is_request}
use Rattle.protocol.specs.declared.Backpointer.{Backpointer}
use Rattle.protocol.specs.declared.Body.{Body}
use Rattle.protocol.specs.declared.Body.TheVariants.{No, NoBecause, Request, Yes}
use Rattle.protocol.specs.declared.Entry.{Entry}
use Rattle.protocol.specs.declared.Kind.{Kind}
use Rattle.protocol.specs.declared.Kind.TheVariants.{Create, Link, Unlink}
use Rattle.protocol.specs.declared.Message.{Message}
use Rattle.protocol.specs.declared.Record.{Record}
use Rattle.protocol.specs.declared.Stage.{Stage}
use Rattle.protocol.specs.declared.Stage.TheVariants.{Cleared, Held, Ready, Refused, Sent}
use Rattle.tables.specs.Slots.{free_backpointer, free_entry, free_message, free_record, is_link, zero_backpointer, zero_entry, zero_message, zero_record}
use Rattle.tables.specs.View.{Sized, SizedPartition, absent, backpointers_of, entries_of, messages_of, no_partition, no_queue, pack, pack_backpointers, pack_entries, pack_partition, pack_queue, pack_records, partition_at, queue_at, records_of, shaped, shaped_backpointers, shaped_entries, shaped_partition, shaped_queue, shaped_records, view, view_partition, zero_partition, Entries, Backpointers, Records, Queue}
use Rattle.tables.specs.declared.Partition.{Partition}
use Rattle.tables.specs.declared.Tables.{Tables}
use Rattle.lists.proofs.Alls.{all_past}
use Rattle.lists.proofs.Fills.{pad-of, take-pad}
use Rattle.lists.proofs.Images.{all-equal, back-again, there_and_back}
use Rattle.lists.proofs.Places.{all-at}
use Rattle.lists.proofs.Tests.{and_left, and_right, every-at, no_true, not-false}
use Rattle.lists.proofs.Tidies.{tidy-count, tidy-length, tidy-pad, tidy-rest}
use Rattle.names.proofs.Laws.{name-true}
use Rattle.protocol.specs.Tables.{Partition as Part, Model, no_partition as no_part}

-- ---- a slot is free only if it is all zero

is-link : (k : Kind) → is_link k ≡ true → k ≡ Link
is-link Link e = refl
is-link Create e = no_true e refl
is-link Unlink e = no_true e refl

is-ready : (s : Stage) → is_ready s ≡ true → s ≡ Ready
is-ready Ready e = refl
is-ready Sent e = no_true e refl
is-ready Held e = no_true e refl
is-ready (Refused why) e = no_true e refl
is-ready Cleared e = no_true e refl

is-request : (b : Body) → is_request b ≡ true → b ≡ Request
is-request Request e = refl
is-request Yes e = no_true e refl
is-request No e = no_true e refl
is-request (NoBecause why) e = no_true e refl

-- the four numbers of an element, and what is left of its test
record Zeros (a b c d : ℕ) (r : Bool) : Type 0 where
  first : a ≡ 0
  second : b ≡ 0
  third : c ≡ 0
  fourth : d ≡ 0
  rest : r ≡ true

zeros : (a b c d : ℕ) (r : Bool) → (eqb a 0 && (eqb b 0 && (eqb c 0 && (eqb d 0 && r)))) ≡ true → Zeros a b c d r
zeros a b c d r e =
    let f = and_right (eqb a 0) _ e in
    let g = and_right (eqb b 0) _ f in
    let h = and_right (eqb c 0) _ g in
    record {
      first = eqb-true a 0 (and_left _ _ e);
      second = eqb-true b 0 (and_left _ _ f);
      third = eqb-true c 0 (and_left _ _ g);
      fourth = eqb-true d 0 (and_left _ _ h);
      rest = and_right (eqb d 0) _ h;
    }

pub free-entry : (e : Entry) → free_entry e ≡ true → e ≡ zero_entry
unfolding free_entry zero_entry
free-entry e h =
    let z = zeros e.number e.directory e.partition e.object _ h in
    let s = name-true e.name zero_name z.rest in
    λ i. record { directory = z.second i; name = s i; partition = z.third i; object = z.fourth i; number = z.first i }

pub free-backpointer : (b : Backpointer) → free_backpointer b ≡ true → b ≡ zero_backpointer
unfolding free_backpointer zero_backpointer
free-backpointer b h =
    let z = zeros b.number b.directory b.parent b.object _ h in
    let s = name-true b.name zero_name z.rest in
    λ i. record { object = z.fourth i; parent = z.third i; directory = z.second i; name = s i; number = z.first i }

pub free-record : (r : Record) → free_record r ≡ true → r ≡ zero_record
unfolding free_record zero_record
free-record r h =
    let z = zeros r.number r.directory r.partition r.object _ h in
    let s = name-true r.name zero_name (and_left _ _ z.rest) in
    let w = and_right (same_name r.name zero_name) _ z.rest in
    let k = is-link r.kind (and_left _ _ w) in
    let g = is-ready r.stage (and_right (is_link r.kind) _ w) in
    λ i. record { kind = k i; directory = z.second i; name = s i; partition = z.third i; object = z.fourth i; number = z.first i; stage = g i }

pub free-message : (x : Message) → free_message x ≡ true → x ≡ zero_message
unfolding free_message zero_message
free-message x h =
    let z = zeros x.number x.directory x.partition x.object _ h in
    let s = name-true x.name zero_name (and_left _ _ z.rest) in
    let w = and_right (same_name x.name zero_name) _ z.rest in
    let k = is-link x.kind (and_left _ _ w) in
    let g = is-request x.body (and_right (is_link x.kind) _ w) in
    λ i. record { body = g i; kind = k i; directory = z.second i; name = s i; partition = z.third i; object = z.fourth i; number = z.first i }

-- ---- the lists

pub entries-pack : (x : Entries) → length x.items ≡ max_entries → shaped_entries x ≡ true → pack_entries (entries_of x) ≡ x
entries-pack x z h =
    let n = tidy-length max_entries free_entry x.count x.items h z in
    let l = tidy-pad max_entries free_entry x.count x.items h z zero_entry free-entry in
    λ i. record { count = n i; items = l i }

pub backpointers-pack : (x : Backpointers) → length x.items ≡ max_backpointers → shaped_backpointers x ≡ true → pack_backpointers (backpointers_of x) ≡ x
backpointers-pack x z h =
    let n = tidy-length max_backpointers free_backpointer x.count x.items h z in
    let l = tidy-pad max_backpointers free_backpointer x.count x.items h z zero_backpointer free-backpointer in
    λ i. record { count = n i; items = l i }

pub records-pack : (x : Records) → length x.items ≡ max_records → shaped_records x ≡ true → pack_records (records_of x) ≡ x
records-pack x z h =
    let n = tidy-length max_records free_record x.count x.items h z in
    let l = tidy-pad max_records free_record x.count x.items h z zero_record free-record in
    λ i. record { count = n i; items = l i }

pub queue-pack : (x : Queue) → length x.items ≡ max_messages → shaped_queue x ≡ true → pack_queue (messages_of x) ≡ x
queue-pack x z h =
    let n = tidy-length max_messages free_message x.count x.items h z in
    let l = tidy-pad max_messages free_message x.count x.items h z zero_message free-message in
    λ i. record { count = n i; items = l i }

-- ---- a partition

pub record ShapedPartition (p : Partition) : Type 0 where
  pub entries : shaped_entries p.entries ≡ true
  pub backpointers : shaped_backpointers p.backpointers ≡ true
  pub records : shaped_records p.records ≡ true

pub shaped-parts : (p : Partition) → shaped_partition p ≡ true → ShapedPartition p
unfolding shaped_partition
shaped-parts p h = record { entries = every-at _ h 0; backpointers = every-at _ h 1; records = every-at _ h 2 }

pub partition-pack : (p : Partition) → SizedPartition p → shaped_partition p ≡ true → pack_partition (view_partition p) ≡ p
partition-pack p z h =
    let s = shaped-parts p h in
    let a = entries-pack p.entries z.entries s.entries in
    let b = backpointers-pack p.backpointers z.backpointers s.backpointers in
    let c = records-pack p.records z.records s.records in
    λ i. record { up = p.up; last = p.last; entries = a i; backpointers = b i; records = c i }

-- one that is not there means nothing
pub absent-view : (p : Partition) → absent p ≡ true → view_partition p ≡ no_part
unfolding absent no_part
absent-view p e =
    let u : p.up ≡ false = not-false p.up (every-at _ e 0) in
    let l : p.last ≡ 0 = eqb-true p.last 0 (every-at _ e 1) in
    let a : p.entries.count ≡ 0 = eqb-true p.entries.count 0 (every-at _ e 2) in
    let b : p.backpointers.count ≡ 0 = eqb-true p.backpointers.count 0 (every-at _ e 3) in
    let c : p.records.count ≡ 0 = eqb-true p.records.count 0 (every-at _ e 4) in
    λ i. record {
      up = u i;
      last = l i;
      entries = take (a i) p.entries.items;
      backpointers = take (b i) p.backpointers.items;
      records = take (c i) p.records.items;
    }

absent-zero : (p : Partition) → SizedPartition p → shaped_partition p ≡ true → absent p ≡ true → p ≡ zero_partition
unfolding zero_partition
absent-zero p z h e = sym (partition-pack p z h) ∙ ap pack_partition (absent-view p e)

-- ---- the whole

pub record Shaped (t : Tables) : Type 0 where
  pub count : t.count ≤ max_partitions
  pub missing : (i : ℕ) → t.count ≤ i → i < max_partitions → absent (partition_at t i) ≡ true
  pub partition : (i : ℕ) → i < max_partitions → shaped_partition (partition_at t i) ≡ true
  pub queue : (k : ℕ) → k < queue_count → shaped_queue (queue_at t k) ≡ true

pub shaped-all : (t : Tables) → Sized t → shaped t ≡ true → Shaped t
unfolding shaped
shaped-all t z e =
    let c = every-at _ e 0 in
    record {
      count = tidy-count max_partitions absent t.count t.partitions c;
      missing = λ i h g. all_past absent t.count t.partitions no_partition (tidy-rest max_partitions absent t.count t.partitions c) i h (omega (arith, z.partitions));
      partition = λ i h. all-at shaped_partition no_partition t.partitions (every-at _ e 1) i (omega (arith, z.partitions));
      queue = λ k h. all-at shaped_queue no_queue t.queues (every-at _ e 2) k (omega (arith, z.queues));
    }

module _ (t : Tables) (z : Sized t) (e : shaped t ≡ true) where
  s : Shaped t
  s = shaped-all t z e

  present : map pack_partition (map view_partition (take t.count t.partitions)) ≡ take t.count t.partitions
  present =
      there_and_back view_partition pack_partition no_partition (take t.count t.partitions)
      (λ i h.
      let len : length (take t.count t.partitions) ≡ t.count = length-take-le t.count t.partitions (omega (arith, z.partitions, s.count)) in
      let g : i < max_partitions = omega (arith, s.count) in
      rw (get_or-take t.count t.partitions i no_partition (omega arith)) (partition-pack (partition_at t i) (z.partition i g) (s.partition i g)))

  rest : drop t.count t.partitions ≡ replicate (length (drop t.count t.partitions)) zero_partition
  rest =
      all-equal zero_partition no_partition (drop t.count t.partitions)
      (λ i h.
      let g : t.count + i < max_partitions = omega (arith, length-drop t.count t.partitions, z.partitions) in
      rw (get_or-drop t.count t.partitions i no_partition) (absent-zero (partition_at t (t.count + i)) (z.partition (t.count + i) g) (s.partition (t.count + i) g) (s.missing (t.count + i) (omega arith) g)))

  pub pack-view : pack (view t) ≡ t
  unfolding pack view
  pack-view =
      let len : length (take t.count t.partitions) ≡ t.count = length-take-le t.count t.partitions (omega (arith, z.partitions, s.count)) in
      let a : length (map view_partition (take t.count t.partitions)) ≡ t.count = length-map (take t.count t.partitions) view_partition ∙ len in
      let b : pad max_partitions zero_partition (map pack_partition (map view_partition (take t.count t.partitions))) ≡ t.partitions =
      ap (pad max_partitions zero_partition) present ∙ sym (pad-of max_partitions t.count zero_partition t.partitions z.partitions s.count rest)
      in
      let c : map pack_queue (map messages_of t.queues) ≡ t.queues =
      there_and_back messages_of pack_queue no_queue t.queues
      (λ k h. let g : k < queue_count = omega (arith, z.queues) in queue-pack (queue_at t k) (z.queue k g) (s.queue k g))
      in
      λ i. record { count = a i; partitions = b i; queues = c i }

-- shaped tables with one view are equal
pub view-injective : (t u : Tables) → Sized t → Sized u → shaped t ≡ true → shaped u ≡ true → view t ≡ view u → t ≡ u
view-injective t u a b e f h = sym (pack-view t a e) ∙ ap pack h ∙ pack-view u b f

-- ---- a model comes back from its stored form

pub partition-unpack : (x : Part) → view_partition (pack_partition x) ≡ x
partition-unpack x =
    let a = take-pad max_entries zero_entry x.entries in
    let b = take-pad max_backpointers zero_backpointer x.backpointers in
    let c = take-pad max_records zero_record x.records in
    λ i. record { up = x.up; last = x.last; entries = a i; backpointers = b i; records = c i }

pub view-pack : (m : Model) → view (pack m) ≡ m
unfolding pack view
view-pack m =
    let l = map pack_partition m.partitions in
    let e : take (length m.partitions) (pad max_partitions zero_partition l) ≡ l = rw (← length-map m.partitions pack_partition) (take-pad max_partitions zero_partition l) in
    let a = ap (map view_partition) e ∙ back-again pack_partition view_partition partition-unpack m.partitions in
    let b = back-again pack_queue messages_of (λ (q : List Message). take-pad max_messages zero_message q) m.queues in
    λ i. record { partitions = a i; queues = b i }
