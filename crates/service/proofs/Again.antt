-- What was loaded is written again, byte for byte.
use mathlib.Core.Bool.{Bool, false, not, true}
use mathlib.Core.List.{List}
use mathlib.Core.Path.{◌∙◌, ◌≡◌, ap, refl, subst, sym}
use Prim.Native.Nat.{◌≤◌, ℕ}
use lib.Dec.{eqb, ltb}
use lib.ListN.{length, length-set}
use borrow.Author.Tests.{eqb-true, ltb-true, not-true}
use Rattle.lists.specs.Lists.{all}
use Rattle.codec.specs.Codec.{is_byte}
use Rattle.protocol.specs.Answers.{Outcome, accept, accepted, check}
use Rattle.protocol.specs.Elements.{is_accepted}
use Rattle.protocol.specs.Order.{in_order}
use Rattle.protocol.specs.Tables.{Model, Partition, is_partition, partition, partition_count, set_partition}
use Rattle.protocol.specs.declared.Refusal.{Refusal}
use Rattle.protocol.specs.declared.Refusal.TheVariants.{Accepted, FieldOutOfRange, IsUp, OutOfOrder, OutOfRange}
use Rattle.protocol.specs.declared.Reply.TheVariants.{None}
use Rattle.protocol.proofs.Look.{part_same}
use Rattle.tables.specs.View.{pack, shaped, view}
use Rattle.tables.specs.declared.Tables.{Tables}
use Rattle.answers.specs.Called.{stored}
use Rattle.answers.specs.declared.Answered.{Answered}
use Rattle.picture.specs.Picture.{Picture, first, largest_picture, picture_of, read, stable, write}
use Rattle.picture.specs.Rows.{Read, fail, more}
use Rattle.picture.specs.Store.{is_for, load, load_read, load_tables}
use Rattle.picture.proofs.Claimed.{claimed}
use Rattle.picture.proofs.InOrder.{first_holds}
use Rattle.picture.proofs.RoundTrip.{only-written, showable}
use Rattle.loading.specs.Loaded.{loaded}
use Rattle.lists.proofs.Tests.{and_left, and_right, by_test, every-at, no_true}
use Rattle.service.specs.Calls.{picture_in}
use Rattle.service.proofs.Refuses.{Refuses, refuses-read}
use Rattle.service.proofs.Returned.{written}

passed : (t : Bool) (why : Refusal) (m : Model) (o : Outcome) → is_accepted why ≡ false → accepted (check t why m o) ≡ true → (t ≡ true) × (accepted o ≡ true) × (check t why m o ≡ o)
unfolding check
passed true why m o w a = (refl, a, refl)
passed false why m o w a = no_true a w

-- what an accepted load of a picture has tested, and what it leaves
record Taken (m : Model) (p : ℕ) (x : Picture) (n : Model) : Type 0 where
  there : is_partition m p ≡ true
  fits : is_for m p x ≡ true
  order : in_order n ≡ true
  model : n ≡ set_partition m p x.tables

module _ (m : Model) (p : ℕ) (bs : List ℕ) (a : accepted (load m p bs) ≡ true) where
  read_first : (accepted (load_read m p (read first bs)) ≡ true) × (is_partition m p ≡ true) × (load m p bs ≡ load_read m p (read first bs))
  unfolding load
  read_first =
      let s = passed (in_order m) OutOfOrder m _ refl a in
      let t = passed (is_partition m p) OutOfRange m _ refl s.1 in
      (t.1, t.0, s.2 ∙ t.2)

  taken : (x : Picture) (r : List ℕ) → read first bs ≡ more x r → Taken m p x (load m p bs).model
  unfolding load_read load_tables
  taken x r e =
      let b = subst (λ (R : Read Picture). accepted (load_read m p R) ≡ true) e read_first.0 in
      let u = passed (is_for m p x) FieldOutOfRange m _ refl b in
      let v = passed (not (partition m p).up) IsUp m _ refl u.1 in
      let w = passed (in_order (set_partition m p x.tables)) OutOfOrder m _ refl v.1 in
      let l : load_read m p (read first bs) ≡ accept 0 None (set_partition m p x.tables) = ap (load_read m p) e ∙ u.2 ∙ v.2 ∙ w.2 in
      let n : (load m p bs).model ≡ set_partition m p x.tables = ap (λ (o : Outcome). o.model) (read_first.2 ∙ l) in
      record { there = read_first.1; fits = u.0; order = ap in_order n ∙ w.0; model = n }

was_read : (m : Model) (p : ℕ) (R : Read Picture) → Refuses R → accepted (load_read m p R) ≡ true → (x : Picture) × (r : List ℕ) × (R ≡ more x r)
unfolding load_read
was_read m p (fail why) h a = no_true a h
was_read m p (more x r) h a = (x, r, refl)

module _ (m : Model) (p : ℕ) (bs : List ℕ) (x : Picture) (r : List ℕ) (b : all is_byte bs ≡ true) (e : read first bs ≡ more x r) (a : accepted (load m p bs) ≡ true) where
  abbrev after : Model
  after = (load m p bs).model

  it : Taken m p x after
  it = taken m p bs a x r e

  pub order-after : in_order after ≡ true
  order-after = it.order

  count-after : partition_count after ≡ partition_count m
  unfolding set_partition
  count-after = ap partition_count it.model ∙ length-set m.partitions p x.tables

  pub there-after : is_partition after p ≡ true
  there-after = ap (ltb p) count-after ∙ it.there

  shown : partition after p ≡ x.tables
  shown = ap (λ (y : Model). partition y p) it.model ∙ part_same m p x.tables (ltb-true _ _ it.there)

  down : (partition after p).up ≡ false
  unfolding showable
  down = ap (λ (y : Partition). y.up) shown ∙ not-true x.tables.up (every-at _ (only-written first bs x r b e).1 3)

  -- loading its own picture would change nothing, so the picture shows all of it
  all_stable : stable (partition after p) ≡ partition after p
  unfolding picture_of
  all_stable =
      let back : load after p (write first (picture_of after p)) ≡ accept 0 None after = claimed.3 after p order-after there-after down in
      let t = taken after p _ (ap accepted back) (picture_of after p) _ (claimed.0 first first_holds after p order-after there-after) in
      let same : set_partition after p (stable (partition after p)) ≡ after = sym t.model ∙ ap (λ (o : Outcome). o.model) back in
      sym (part_same after p (stable (partition after p)) (ltb-true _ _ there-after)) ∙ ap (λ (y : Model). partition y p) same

  picture-after : picture_of after p ≡ x
  unfolding picture_of
  picture-after =
      let q : x.partition ≡ p = eqb-true _ _ (and_left _ _ it.fits) in
      let c : x.count ≡ partition_count m = eqb-true _ _ (and_right (eqb x.partition p) _ it.fits) in
      λ j. record { partition = sym q j; count = (count-after ∙ sym c) j; tables = (all_stable ∙ shown) j }

  pub same_bytes : write first (picture_of after p) ≡ bs
  same_bytes = ap (write first) picture-after ∙ sym (only-written first bs x r b e).0

-- ---- on the tables as stored

module _ (t : Tables) (p : ℕ) (bs room : List ℕ) (b : all is_byte bs ≡ true) (h : (loaded t p bs).answer.refusal ≡ Accepted) where
  abbrev outcome : Outcome
  outcome = load (view t) p bs

  was-shaped : shaped t ≡ true
  unfolding loaded stored
  was-shaped = by_test (shaped t) (λ s. s) (λ s. no_true (ap is_accepted h) (rw s refl))

  was-loaded : loaded t p bs ≡ stored t outcome
  unfolding loaded
  was-loaded = rw was-shaped refl

  was-accepted : accepted outcome ≡ true
  unfolding stored
  was-accepted = ap (λ (y : Answered). is_accepted y.answer.refusal) (sym was-loaded) ∙ ap is_accepted h

  tables_after : (loaded t p bs).tables ≡ pack outcome.model
  unfolding stored
  tables_after = ap (λ (y : Answered). y.tables) was-loaded ∙ rw was-accepted refl

  pub writes_again : largest_picture ≤ length room → picture_in (loaded t p bs).tables p room ≡ bs
  writes_again l =
      let a = was-accepted in
      let (x, r, e) = was_read (view t) p (read first bs) (refuses-read first bs) (read_first (view t) p bs a).0 in
      rw tables_after
      (written outcome.model p room (order-after (view t) p bs x r b e a) (there-after (view t) p bs x r b e a) l
      ∙ same_bytes (view t) p bs x r b e a)
