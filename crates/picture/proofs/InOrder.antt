-- Each partition of tables in order has a picture, in every edition that holds a name's bytes.
use mathlib.Core.Bool.{Bool, ◌&&◌, true}
use mathlib.Core.List.{List, [], ◌++◌, ◌∷◌, map}
use mathlib.Core.Path.{◌∙◌, ◌≡◌, ap, refl, subst}
use Prim.Native.Nat.{◌+◌, ◌-◌, ◌<◌, ◌≤◌, ℕ}
use native.Mathlib.Omega.{arith}
use lib.Dec.{leb}
use lib.ListN.{drop, length, length-map, replicate, take}
use lib.Seq.{drop-drop, length-take-le}
use borrow.Author.Tests.{eq-eqb, eqb-true, leb-true, lt-ltb, ltb-true}
use Rattle.lists.specs.Lists.{all, pad}
use Rattle.names.specs.Names.{good_name, is_zero, name_bytes, same_bytes}
use Rattle.names.specs.declared.Name.{Name}
use Rattle.protocol.specs.Bounds.{largest_number, max_partitions, max_records}
use Rattle.protocol.specs.Elements.{kind_number}
use Rattle.protocol.specs.Order.{o1, o4, backpointer_in_range, backpointers_apart, entry_in_range, given_by, in_order, in_range, numbers_given, partition_in_range, record_in_range}
use Rattle.protocol.specs.Tables.{Model, Partition, in_stage, is_partition, partition, partition_count}
use Rattle.protocol.specs.declared.Backpointer.{Backpointer}
use Rattle.protocol.specs.declared.Entry.{Entry}
use Rattle.protocol.specs.declared.Kind.{Kind}
use Rattle.protocol.specs.declared.Kind.TheVariants.{Create, Link, Unlink}
use Rattle.protocol.specs.declared.Record.{Record}
use Rattle.protocol.specs.declared.Stage.TheVariants.{Ready}
use Rattle.partitions.specs.Clauses.{backpointer_among, entry_among, given, placed_among, record_among}
use Rattle.codec.specs.Codec.{byte, is_byte, long, run, then, those, via}
use Rattle.picture.specs.Claims.{Holds}
use Rattle.picture.specs.Picture.{bp, en, Edition, hd, lg, backpointer_fits, entry_fits, first, head_fits, head_of, is_kind, item_form, name_form, picture_of, read, record_fits, write}
use Rattle.picture.specs.Rows.{Row, fits, fitting, more}
use Rattle.picture.specs.declared.Head.{Head}
use Rattle.lists.proofs.Alls.{all_drop, all-image}
use Rattle.lists.proofs.Fills.{all_same, pad-of}
use Rattle.lists.proofs.Members.{all-get, all_true}
use Rattle.lists.proofs.Tests.{◌also◌, and_left, and_right, below_at, both_true, done, every-at, every_of}
use Rattle.names.proofs.Laws.{bytes_same}
use Rattle.picture.proofs.RoundTrip.{showable, written-reads}

pub first_holds : Holds first
first_holds n h = (h, omega arith)

-- ---- the fields

zeros : (s : Name) (k : ℕ) → s.len ≤ k → all is_zero (drop s.len s.bytes) ≡ true → drop k s.bytes ≡ replicate (length (drop k s.bytes)) 0
zeros s k h e =
    let d : s.len + (k - s.len) ≡ k = omega arith in
    let f : all is_zero (drop k s.bytes) ≡ true = rw d at (rw (drop-drop (k - s.len) s.len s.bytes) at (all_drop is_zero (k - s.len) (drop s.len s.bytes) e)) in
    all_same is_zero 0 (λ x. eqb-true x 0) (drop k s.bytes) f

pub name-fine : (v : Edition) → Holds v → (s : Name) → good_name s ≡ true → (name_form v).fine s ≡ true
unfolding name_form via then byte run good_name
name-fine v enough s g =
    let k = v.held s.len in
    let most : s.len ≤ name_bytes = leb-true _ _ (every-at _ g 1) in
    let whole : length s.bytes ≡ name_bytes = eqb-true _ _ (every-at _ g 2) in
    let e = enough s.len most in
    let a : s.bytes ≡ pad name_bytes 0 (take k s.bytes) = pad-of name_bytes k 0 s.bytes whole e.1 (zeros s k e.0 (every-at _ g 4)) in
    let b : length (take k s.bytes) ≡ k = length-take-le k s.bytes (omega (arith, e.1)) in
    let c : s.len < 256 = omega arith in
    both_true (subst (λ (l : List ℕ). same_bytes s.bytes l ≡ true) a (bytes_same s.bytes)) (both_true (lt-ltb _ _ c) (eq-eqb _ _ b))

item-fine : (v : Edition) (a b c n : ℕ) (s : Name) → a < 256 → b < 256 → c < 256 → (name_form v).fine s ≡ true → n ≤ largest_number → (item_form v).fine (a, (b, (c, (s, n)))) ≡ true
unfolding item_form then byte long
item-fine v a b c n s p q r e h =
    let k : n < 4294967296 = omega arith in
    both_true (lt-ltb _ _ p) (both_true (lt-ltb _ _ q) (both_true (lt-ltb _ _ r) (both_true e (lt-ltb _ _ k))))

-- ---- a list each of whose items is fine and passes the test

fits_all : {A : Type 0} (w : Row A) (t : A → Bool) (earlier xs : List A) → all (λ x. w.form.fine x && t x) xs ≡ true → fits w (λ l. t) earlier xs ≡ true
unfolding fits all
fits_all w t earlier [] e = refl
fits_all w t earlier (x ∷ xs) e = both_true (and_left (w.form.fine x && t x) _ e) (fits_all w t (earlier ++ x ∷ []) xs (and_right (w.form.fine x && t x) _ e))

module _ (v : Edition) (enough : Holds v) (m : Model) (p : ℕ) (o : in_order m ≡ true) (i : is_partition m p ≡ true) where
  abbrev x : Partition
  x = partition m p

  abbrev h : Head
  h = head_of (picture_of m p)

  o1-holds : o1 m ≡ true
  unfolding in_order
  o1-holds = every-at _ o 0

  o4-holds : o4 m ≡ true
  unfolding in_order
  o4-holds = every-at _ o 3

  few : partition_count m ≤ max_partitions
  unfolding o1
  few = leb-true _ _ (every-at _ o1-holds 1)

  in-range : (q : ℕ) → q < partition_count m → partition_in_range m (partition m q) ≡ true
  unfolding o1
  in-range q l = below_at _ _ (every-at _ o1-holds 3) q l

  here : p < partition_count m
  here = ltb-true _ _ i

  last-most : (q : ℕ) → q < partition_count m → (partition m q).last ≤ largest_number
  unfolding partition_in_range
  last-most q l = leb-true _ _ (every-at _ (in-range q l) 0)

  numbers : numbers_given m x ≡ true
  unfolding o4
  numbers = and_right (backpointers_apart x) _ (below_at _ _ o4-holds p here)

  within : (y : Partition) (n : ℕ) → given_by y n ≡ true → (leb 1 n ≡ true) × (n ≤ y.last)
  unfolding given_by
  within y n e = (and_left (leb 1 n) _ e, leb-true _ _ (and_right (leb 1 n) _ e))

  -- a directory, an object and a name within their ranges
  module _ (d q b : ℕ) (s : Name) (e : in_range m d q b && good_name s ≡ true) where
    ranges : in_range m d q b ≡ true
    ranges = and_left (in_range m d q b) _ e

    small : (d < 256) × (q < partition_count m) × (b < 256)
    unfolding in_range
    small =
        let j : d < 4 = ltb-true _ _ (every-at _ ranges 0) in
        let k : b < 64 = ltb-true _ _ (every-at _ ranges 2) in
        (omega arith, ltb-true _ _ (every-at _ ranges 1), omega arith)

    byte-count : q < 256
    byte-count = omega (arith, small.1, few)

    named : (name_form v).fine s ≡ true
    named = name-fine v enough s (and_right (in_range m d q b) _ e)

    among : placed_among (partition_count m) d q b ≡ true
    unfolding in_range placed_among
    among = ranges

    named-well : good_name s ≡ true
    named-well = and_right (in_range m d q b) _ e

  entry-ok : (e : Entry) → entry_in_range m e ≡ true → given_by x e.number ≡ true → (en v).form.fine e && entry_fits h e ≡ true
  unfolding en via entry_fits entry_among given given_by picture_of
  entry-ok e r g =
      let s = small e.directory e.partition e.object e.name r in
      let n : e.number ≤ largest_number = omega (arith, (within x e.number g).1, last-most p here) in
      both_true
      (item-fine v e.directory e.partition e.object e.number e.name s.0 (byte-count e.directory e.partition e.object e.name r) s.2 (named e.directory e.partition e.object e.name r) n)
      (both_true (both_true (among e.directory e.partition e.object e.name r) (named-well e.directory e.partition e.object e.name r)) g)

  record-ok : (r : Record) → record_in_range m r ≡ true → given_by x r.number ≡ true → (lg v).form.fine (in_stage Ready r) && record_fits h (in_stage Ready r) ≡ true
  unfolding lg via those then byte record_fits record_among given given_by picture_of
  record-ok r e g =
      let u : in_range m r.directory r.partition r.object && good_name r.name ≡ true = both_true (and_left (in_range m r.directory r.partition r.object) _ e) (and_left (good_name r.name) _ (and_right (in_range m r.directory r.partition r.object) _ e)) in
      let s = small r.directory r.partition r.object r.name u in
      let n : r.number ≤ largest_number = omega (arith, (within x r.number g).1, last-most p here) in
      let f = item-fine v r.directory r.partition r.object r.number r.name s.0 (byte-count r.directory r.partition r.object r.name u) s.2 (named r.directory r.partition r.object r.name u) n in
      both_true
      (both_true (is-kind r.kind) (both_true (kind-byte r.kind) f))
      (both_true (both_true (among r.directory r.partition r.object r.name u) (both_true (named-well r.directory r.partition r.object r.name u) refl)) g)
    where
      is-kind : (k : Kind) → is_kind (kind_number k) ≡ true
      is-kind Link = refl
      is-kind Create = refl
      is-kind Unlink = refl

      kind-byte : (k : Kind) → is_byte (kind_number k) ≡ true
      kind-byte Link = refl
      kind-byte Create = refl
      kind-byte Unlink = refl

  backpointer-ok : (b : Backpointer) → backpointer_in_range m b ≡ true → given_by (partition m b.parent) b.number ≡ true → (bp v).form.fine b && backpointer_fits h b ≡ true
  unfolding bp via backpointer_fits backpointer_among picture_of
  backpointer-ok b r g =
      let s = small b.directory b.parent b.object b.name r in
      let n : b.number ≤ largest_number = omega (arith, (within (partition m b.parent) b.number g).1, last-most b.parent s.1) in
      both_true
      (item-fine v b.object b.parent b.directory b.number b.name s.2 (byte-count b.directory b.parent b.object b.name r) s.0 (named b.directory b.parent b.object b.name r) n)
      (both_true (both_true (among b.directory b.parent b.object b.name r) (named-well b.directory b.parent b.object b.name r)) (within (partition m b.parent) b.number g).0)

  entries-ok : all (λ e. (en v).form.fine e && entry_fits h e) x.entries ≡ true
  unfolding partition_in_range numbers_given
  entries-ok = all_true _ x.entries (λ e j. entry-ok e (all-get _ x.entries (every-at _ (in-range p here) 4) e j) (all-get _ x.entries (every-at _ numbers 0) e j))

  backpointers-ok : all (λ b. (bp v).form.fine b && backpointer_fits h b) x.backpointers ≡ true
  unfolding partition_in_range numbers_given
  backpointers-ok = all_true _ x.backpointers (λ b j. backpointer-ok b (all-get _ x.backpointers (every-at _ (in-range p here) 5) b j) (all-get _ x.backpointers (every-at _ numbers 2) b j))

  records-ok : all (λ r. (lg v).form.fine r && record_fits h r) (map (in_stage Ready) x.records) ≡ true
  unfolding partition_in_range numbers_given
  records-ok =
      all-image _ (in_stage Ready) x.records
      ∙ all_true _ x.records (λ r j. record-ok r (all-get _ x.records (every-at _ (in-range p here) 6) r j) (all-get _ x.records (every-at _ numbers 1) r j))

  head-fine : ((hd v).form.fine h ≡ true) × (head_fits h ≡ true)
  unfolding hd via then byte long head_fits picture_of o1
  head-fine =
      let a : p < 256 = omega (arith, here, few) in
      let b : partition_count m < 256 = omega (arith, few) in
      let c : x.last < 4294967296 = omega (arith, last-most p here) in
      (both_true (lt-ltb _ _ a) (both_true (lt-ltb _ _ b) (lt-ltb _ _ c)), every_of _ (every-at _ o1-holds 0 also every-at _ o1-holds 1 also i also done))

  pub order-showable : showable v (picture_of m p) ≡ true
  unfolding showable picture_of fitting partition_in_range
  order-showable =
      let l : leb (length (map (in_stage Ready) x.records)) max_records ≡ true = ap (λ (n : ℕ). leb n max_records) (length-map x.records (in_stage Ready)) ∙ every-at _ (in-range p here) 3 in
      every_of _
      (head-fine.0
      also head-fine.1
      also both_true (both_true (fits_all (en v) (entry_fits h) [] x.entries entries-ok) (every-at _ (in-range p here) 1))
      (both_true (both_true (fits_all (bp v) (backpointer_fits h) [] x.backpointers backpointers-ok) (every-at _ (in-range p here) 2))
      (both_true (both_true (fits_all (lg v) (record_fits h) [] (map (in_stage Ready) x.records) records-ok) l) refl))
      also refl
      also done)

  -- read (write x) ≡ x, for every partition of tables in order
  pub order-reads : read v (write v (picture_of m p)) ≡ more (picture_of m p) []
  order-reads = written-reads v (picture_of m p) order-showable
