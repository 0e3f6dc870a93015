-- What holds of each partition by itself: names, places and counts.
use mathlib.Core.Bool.{Bool, ◌&&◌, false, true}
use mathlib.Core.List.{List, [], ◌++◌, ◌∷◌}
use mathlib.Core.Path.{◌∙◌, ◌≡◌, ap, refl, sym}
use Prim.Native.Nat.{◌<◌, ◌≤◌, ℕ}
use native.Mathlib.Nat.{le_refl, le_trans}
use native.Mathlib.Omega.{arith}
use lib.Dec.{eqb}
use lib.ListN.{length}
use borrow.Author.Tests.{eqb-false, eqb-true, ne_eqb}
use Rattle.lists.specs.Lists.{is_none, keep, map_if, without}
use Rattle.protocol.specs.Bounds.{max_backpointers, max_entries, max_records}
use Rattle.protocol.specs.Elements.{Backpointer, Entry, Name, Record, Stage, Unlink, adds}
use Rattle.protocol.specs.Tables.{Model, Partition, claimed, entry_bears, in_place, in_stage, partition, record_bears, set_partition, stands_under, turned, unentered, with_backpointers, with_entries, with_records}
use Rattle.lists.proofs.Keep.{keep-cong, keep_snoc, keep-snoc-other, keep-without-other, length-keep-map_if, length-keep-without, length-map_if, length-split, length_without, single, snoc-length, tally-snoc}
use Rattle.lists.proofs.Tests.{by_test, eqb_same, hit, no_true}
use Rattle.protocol.proofs.Look.{part-other, part_same, place-true, stands-true}

pub record Neat (x : Partition) : Type 0 where
  pub names : (d : ℕ) (s : Name) → length (keep (stands_under d s) x.entries) ≤ 1
  pub keys : (o a d : ℕ) (s : Name) → length (keep (in_place o a d s) x.backpointers) ≤ 1
  pub records : length x.records ≤ max_records
  pub backpointers : length x.backpointers ≤ max_backpointers
  pub claimed : claimed x ≤ max_entries
  pub last : x.last ≤ 4294967295

abbrev pub Neats : Model → Type 0
Neats m = (q : ℕ) → Neat (partition m q)

pub neat-set : (m : Model) (p : ℕ) (x : Partition) → p < length m.partitions → (Neat (partition m p) → Neat x) → Neats m
    → Neats (set_partition m p x)
neat-set m p x h f n q =
    by_test (eqb q p)
    (λ t. rw (eqb-true q p t, part_same m p x h) (f (n p)))
    (λ t. rw (part-other m p x h q t) (n q))

-- records change
pub neat-records : (x : Partition) (l : List Record) → length l ≤ max_records
    → length (keep (unentered x.entries) l) ≤ length (keep (unentered x.entries) x.records) → Neat x → Neat (with_records x l)
unfolding claimed
neat-records x l a b n =
    record {
      names = n.names;
      keys = n.keys;
      records = a;
      backpointers = n.backpointers;
      claimed = let c = n.claimed in omega arith;
      last =
          n.last;
    }

-- in place, to no more open additions
pub neat-alter : (x : Partition) (f : Record → Bool) (u : Record → Record)
    → ((r : Record) → unentered x.entries (u r) ≡ true → unentered x.entries r ≡ true) → Neat x → Neat (with_records x (map_if f u x.records))
neat-alter x f u h n = neat-records x (map_if f u x.records) (rw (length-map_if f u x.records) n.records)
    (length-keep-map_if (unentered x.entries) f u h x.records) n

pub neat-stage : (x : Partition) (f : Record → Bool) (s : Stage) → Neat x → Neat (with_records x (map_if f (in_stage s) x.records))
neat-stage x f s n = neat-alter x f (in_stage s) (λ r e. e) n

pub neat-turn : (x : Partition) (f : Record → Bool) → Neat x → Neat (with_records x (map_if f turned x.records))
neat-turn x f n = neat-alter x f turned (λ r e. no_true e refl) n

pub neat-close : (x : Partition) (f : Record → Bool) → Neat x → Neat (with_records x (without f x.records))
neat-close x f n = neat-records x (without f x.records) (le_trans (length_without f x.records) n.records)
    (length-keep-without (unentered x.entries) f x.records) n

-- an unlink opens
pub neat-unlink : (x : Partition) (r : Record) → r.kind ≡ Unlink → length x.records < max_records → Neat x → Neat (with_records x (x.records ++ r ∷ []))
neat-unlink x r k h n = neat-records x (x.records ++ r ∷ []) (rw (snoc-length x.records r) h)
    (let a = tally-snoc (unentered x.entries) x.records r in let b : hit (unentered x.entries r) ≡ 0 = rw k refl in omega arith) n

-- a link or create opens
pub neat-more : (x : Partition) (r : Record) → length x.records < max_records → claimed x < max_entries → Neat x → Neat (with_records x (x.records ++ r ∷ []))
unfolding claimed
neat-more x r a b n =
    record {
      names = n.names;
      keys = n.keys;
      records = rw (snoc-length x.records r) a;
      backpointers = n.backpointers;
      claimed = let d = tally-snoc (unentered x.entries) x.records r in let e = hit-one (unentered x.entries r) in omega arith;
      last = n.last;
    }
  where
    hit-one : (t : Bool) → hit t ≤ 1
    hit-one true = le_refl 1
    hit-one false = omega arith

-- back-pointers come and go
pub neat-grow : (x : Partition) (b : Backpointer) → length (keep (in_place b.object b.parent b.directory b.name) x.backpointers) ≡ 0
    → length x.backpointers < max_backpointers → Neat x → Neat (with_backpointers x (x.backpointers ++ b ∷ []))
unfolding claimed
neat-grow x b e h n =
    record {
      names = n.names;
      keys = λ o a d s. by_test (in_place o a d s b)
          (λ t.
          let q = place-true o a d s b t in
          let z : length (keep (in_place o a d s) x.backpointers) ≡ 0 = rw (q.0, q.1, q.2, q.3) at e in
          let k = tally-snoc (in_place o a d s) x.backpointers b in let w : hit (in_place o a d s b) ≡ 1 = rw t refl in omega arith)
          (λ t. rw (keep-snoc-other (in_place o a d s) x.backpointers b t) (n.keys o a d s));
      records = n.records;
      backpointers = rw (snoc-length x.backpointers b) h;
      claimed = n.claimed;
      last = n.last;
    }

pub neat-shrink : (x : Partition) (f : Backpointer → Bool) → Neat x → Neat (with_backpointers x (without f x.backpointers))
unfolding claimed
neat-shrink x f n =
    record {
      names = n.names;
      keys = λ o a d s. le_trans (length-keep-without (in_place o a d s) f x.backpointers) (n.keys o a d s);
      records = n.records;
      backpointers = le_trans (length_without f x.backpointers) n.backpointers;
      claimed = n.claimed;
      last = n.last;
    }

-- entries come and go
pub neat-enter : (x : Partition) (e : Entry) (r : Record) → keep (stands_under e.directory e.name) x.entries ≡ []
    → keep (entry_bears e.number) x.entries ≡ []
    → keep (record_bears e.number) x.records ≡ r ∷ [] → r.number ≡ e.number → adds r.kind ≡ true → Neat x
    → Neat (with_entries x (x.entries ++ e ∷ []))
unfolding claimed
neat-enter x e r nn ne kr rn ra n =
    record {
      names = λ d s. by_test (stands_under d s e)
          (λ t.
          let q = stands-true d s e t in
          let z : keep (stands_under d s) x.entries ≡ [] = rw (q.0, q.1) at nn in
          let z' : length (keep (stands_under d s) x.entries) ≡ 0 = ap length z in
          let k = tally-snoc (stands_under d s) x.entries e in let w : hit (stands_under d s e) ≡ 1 = rw t refl in omega arith)
          (λ t. rw (keep-snoc-other (stands_under d s) x.entries e t) (n.names d s));
      keys = n.keys;
      records = n.records;
      backpointers = n.backpointers;
      claimed =
          let f : Record → Bool = record_bears e.number in
          let g : Record → Bool = unentered x.entries in
          let g' : Record → Bool = unentered (x.entries ++ e ∷ []) in
          let a = length-split f g x.records in
          let b = length-split f g' x.records in
          let c = keep-cong f g g'
          (λ y t. ap (λ (k : List Entry). adds y.kind && is_none k)
          (keep-snoc-other (entry_bears y.number) x.entries e
          (ne_eqb e.number y.number (λ q. eqb-false y.number e.number t (sym q))))) x.records in
          let d : length (keep g (keep f x.records)) ≡ 1 = rw kr (single g r ∙ rw (ra, rn, ne) refl) in
          let d' : length (keep g' (keep f x.records)) ≡ 0 = rw kr
          (single g' r ∙ rw (ra, rn, keep_snoc (entry_bears e.number) x.entries e, ne, eqb_same e.number) refl) in
          let h = n.claimed in let k = snoc-length x.entries e in omega arith;
      last = n.last;
    }

pub neat-leave : (x : Partition) (n : ℕ) (r : Record) → keep (record_bears n) x.records ≡ r ∷ [] → r.kind ≡ Unlink → Neat x
    → Neat (with_entries x (without (entry_bears n) x.entries))
unfolding claimed
neat-leave x n r kr ru nt =
    record {
      names = λ d s. le_trans (length-keep-without (stands_under d s) (entry_bears n) x.entries) (nt.names d s);
      keys = nt.keys;
      records = nt.records;
      backpointers = nt.backpointers;
      claimed =
          let f : Record → Bool = record_bears n in
          let g : Record → Bool = unentered x.entries in
          let g' : Record → Bool = unentered (without (entry_bears n) x.entries) in
          let a = length-split f g x.records in
          let b = length-split f g' x.records in
          let c = keep-cong f g g' (λ y t. ap (λ (k : List Entry). adds y.kind && is_none k)
          (keep-without-other (entry_bears n) (entry_bears y.number)
          (λ z u. ne_eqb z.number y.number (λ q. eqb-false y.number n t (sym q ∙ eqb-true z.number n u))) x.entries)) x.records in
          let d : length (keep g' (keep f x.records)) ≡ 0 = rw kr (single g' r ∙ rw ru refl) in
          let h = nt.claimed in let k = length_without (entry_bears n) x.entries in omega arith;
      last = nt.last;
    }
