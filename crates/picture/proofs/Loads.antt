-- Load of what was written gives back a partition's stable tables, records ready.
use mathlib.Core.Bool.{Bool, ◌&&◌, ◌||◌, false, true}
use mathlib.Core.List.{List, [], ◌∷◌, map}
use mathlib.Core.Path.{◌∙◌, ◌≡◌, ap, ap₂, refl, sym}
use Prim.Native.Nat.{◌<◌, ℕ}
use lib.Dec.{eqb, ltb}
use lib.ListN.{length, length-set}
use borrow.Author.Tests.{eq-eqb, ltb-true}
use Rattle.lists.specs.Lists.{is_none, map_if, pick}
use Rattle.protocol.specs.Answers.{Outcome, accept, check}
use Rattle.protocol.specs.Elements.{is_ready}
use Rattle.protocol.specs.Faults.{crash, falls_with, lose, relapsed, touches}
use Rattle.protocol.specs.Order.{o7, all_ready, each_pair, in_order}
use Rattle.protocol.specs.Tables.{Model, Partition, in_stage, is_partition, no_partition, partition, partition_count, queue, set_partition, set_up, with_up}
use Rattle.protocol.specs.declared.Record.{Record}
use Rattle.protocol.specs.declared.Refusal.{Refusal}
use Rattle.protocol.specs.declared.Refusal.TheVariants.{Down, OutOfRange}
use Rattle.protocol.specs.declared.Reply.TheVariants.{None}
use Rattle.protocol.specs.declared.Stage.TheVariants.{Ready}
use Rattle.picture.specs.Picture.{first, picture_of, stable, write}
use Rattle.picture.specs.Store.{load, load_read, load_tables}
use Rattle.lists.proofs.Alls.{map_back}
use Rattle.lists.proofs.Backs.{set_back}
use Rattle.lists.proofs.Tests.{and_right, below_at, eqb_same, every-at, or_right}
use Rattle.protocol.proofs.Look.{part_same}
use Rattle.protocol.proofs.Losses.{count-lose, part-lose}
use Rattle.picture.proofs.Forms.{ready-is}
use Rattle.picture.proofs.InOrder.{first_holds, order-reads}

ready-back : (r : Record) → is_ready r.stage ≡ true → in_stage Ready r ≡ r
ready-back r e =
    λ i.
    record {
      kind = r.kind;
      directory = r.directory;
      name = r.name;
      partition = r.partition;
      object = r.object;
      number = r.number;
      stage = ready-is r.stage e i;
    }

module _ (m : Model) (p : ℕ) (o : in_order m ≡ true) (i : is_partition m p ≡ true) where
  -- into any tables in order that have as many partitions
  pub load-written : (n : Model) → in_order n ≡ true → partition_count n ≡ partition_count m → (partition n p).up ≡ false → in_order (set_partition n p (stable (partition m p))) ≡ true
      → load n p (write first (picture_of m p)) ≡ accept 0 None (set_partition n p (stable (partition m p)))
  unfolding load load_read load_tables check picture_of
  load-written n a c d e =
      let there : is_partition n p ≡ true = rw c i in
      let same : eqb (partition_count m) (partition_count n) ≡ true = eq-eqb _ _ (sym c) in
      rw (a, there, order-reads first first_holds m p o i) (rw (eqb_same p, same, d, e))

  -- a down partition is what its picture shows
  down-stable : (partition m p).up ≡ false → stable (partition m p) ≡ partition m p
  unfolding in_order o7
  down-stable d =
      let o7-holds = every-at _ o 6 in
      let t : (partition m p).up || all_ready (partition m p) ≡ true = below_at _ _ (and_right (each_pair (λ s r. (partition m s).up && (partition m r).up || is_none (queue m s r))) _ o7-holds) p (ltb-true _ _ i) in
      let ready = map_back (in_stage Ready) (λ r. is_ready r.stage) ready-back (partition m p).records (or_right (partition m p).up t d) in
      λ j. record { up = sym d j; last = (partition m p).last; entries = (partition m p).entries; backpointers = (partition m p).backpointers; records = ready j }

  set_same : set_partition m p (partition m p) ≡ m
  unfolding set_partition partition
  set_same = λ j. record { partitions = set_back m.partitions p no_partition j; queues = m.queues }

  -- into the partition that it was written from, while down
  pub load-back : (partition m p).up ≡ false → load m p (write first (picture_of m p)) ≡ accept 0 None m
  load-back d =
      let e : set_partition m p (stable (partition m p)) ≡ m = ap (set_partition m p) (down-stable d) ∙ set_same in
      load-written m o refl d (ap in_order e ∙ o) ∙ ap (accept 0 None) e

-- ---- a crash leaves the picture as it was

ready-again : (f : Record → Bool) (l : List Record) → map (in_stage Ready) (map_if f (in_stage Ready) l) ≡ map (in_stage Ready) l
unfolding map_if
ready-again f [] = refl
ready-again f (r ∷ l) = ap₂ ◌∷◌ (once (f r)) (ready-again f l)
  where
    once : (t : Bool) → in_stage Ready (pick t (in_stage Ready r) r) ≡ in_stage Ready r
    once true = refl
    once false = refl

passed : (t : Bool) (why : Refusal) (m : Model) (y : Outcome) → t ≡ true → check t why m y ≡ y
unfolding check
passed t why m y e = rw e refl

module _ (m : Model) (p : ℕ) (i : is_partition m p ≡ true) (u : (partition m p).up ≡ true) where
  abbrev crashed : Model
  crashed = (crash m p).model

  abbrev lost : Model
  lost = lose (falls_with p) (touches p) m

  crash-is : crashed ≡ set_up lost p false
  unfolding crash
  crash-is = ap (λ (y : Outcome). y.model) (passed (is_partition m p) OutOfRange m _ i ∙ passed (partition m p).up Down m _ u)

  crash-part : partition crashed p ≡ with_up false (relapsed (falls_with p) p (partition m p))
  unfolding set_up
  crash-part =
      let h : p < length lost.partitions = rw (count-lose (falls_with p) (touches p) m) (ltb-true _ _ i) in
      ap (λ (n : Model). partition n p) crash-is ∙ part_same lost p (with_up false (partition lost p)) h ∙ ap (with_up false) (part-lose (falls_with p) (touches p) m p)

  crash-count : partition_count crashed ≡ partition_count m
  unfolding set_up set_partition
  crash-count = ap partition_count crash-is ∙ length-set lost.partitions p _ ∙ count-lose (falls_with p) (touches p) m

  pub crash-picture : picture_of crashed p ≡ picture_of m p
  unfolding picture_of
  crash-picture =
      λ j.
      record {
        partition = p;
        count = crash-count j;
        tables = (ap stable crash-part ∙ ap (λ (l : List Record). record { up = false; last = (partition m p).last; entries = (partition m p).entries; backpointers = (partition m p).backpointers; records = l }) (ready-again (falls_with p p) (partition m p).records)) j;
      }

  -- written while up, and loaded after a crash: the crashed tables
  pub load-after-crash : in_order crashed ≡ true → load crashed p (write first (picture_of m p)) ≡ accept 0 None crashed
  load-after-crash o =
      rw (← crash-picture)
      (load-back crashed p o (ap (ltb p) crash-count ∙ i) (ap (λ (x : Partition). x.up) crash-part))
