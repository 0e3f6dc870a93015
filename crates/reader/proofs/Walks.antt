-- The reader run to its end tells of any bytes what `read` does: through the entries, the back-pointers, the records, to the close.
use mathlib.Core.Bool.{Bool, ◌&&◌, and-false, and-true, false, true}
use mathlib.Core.List.{List, [], ◌++◌, append-nil}
use mathlib.Core.Path.{◌∙◌, ◌≡◌, ap, refl, sym}
use Prim.Native.Nat.{◌+◌, ◌≤◌, suc, zero, ℕ}
use native.Mathlib.Omega.{arith}
use lib.Dec.{eqb, leb}
use lib.ListN.{length}
use Rattle.lists.specs.Lists.{all}
use Rattle.protocol.specs.Bounds.{max_backpointers, max_entries, max_records}
use Rattle.protocol.specs.declared.Backpointer.{Backpointer}
use Rattle.protocol.specs.declared.Entry.{Entry}
use Rattle.protocol.specs.declared.Record.{Record}
use Rattle.protocol.specs.declared.Refusal.{Refusal}
use Rattle.protocol.specs.declared.Refusal.TheVariants.{FieldOutOfRange}
use Rattle.codec.specs.Codec.{is_byte}
use Rattle.picture.specs.Answers.{no_picture}
use Rattle.picture.specs.Picture.{bp, en, hd, Items, lg, Picture, backpointer_fits, backpointer_section, closing, entry_fits, entry_section, first, head_fits, picture_from, read, read_tables, record_fits, record_section, sections}
use Rattle.picture.specs.Rows.{Contents, Read, Row, Section, Table, ◌before◌, body, close, counted, fail, fits, many, marked, more, next, one, put_row, put_rows, put_table, read_table}
use Rattle.picture.specs.Standing.{handed_at, handed_next, handed_under, hands, hands_backpointer, hands_close, hands_entry, hands_record}
use Rattle.picture.specs.declared.Handed.{Handed}
use Rattle.picture.specs.declared.Head.{Head}
use Rattle.reader.specs.Walk.{WalkReads, join, together, walk}
use Rattle.lists.proofs.Keep.{snoc-length}
use Rattle.picture.proofs.Forms.{lawful-hd}
use Rattle.picture.proofs.Lengths.{head-length}
use Rattle.picture.proofs.Rounds.{one_only}
use Rattle.reader.proofs.Phases.{Phase, next-next, next-same, other-mark, phase, step-close}
use Rattle.reader.proofs.Places.{Passed, backpointer-passed, entry-passed, here, not_none, place, record-passed}

-- how many steps are enough from the records on, from the back-pointers on, from the entries on
abbrev from_records : ℕ
from_records = max_records + 1

abbrev from_backpointers : ℕ
from_backpointers = max_backpointers + from_records

abbrev from_entries : ℕ
from_entries = max_entries + from_backpointers

abbrev with_entries : List Entry → Items first
with_entries es = (es, ([], ([], tt)))

module _ (s : List ℕ) (bytes : all is_byte s ≡ true) (h : Head) (tail : List ℕ) (headed : one (hd first) FieldOutOfRange head_fits s ≡ more h tail) where
  abbrev Behind : Items first → List ℕ → Type 0
  Behind c bs = Passed s bytes h tail headed c bs

  -- n steps from behind the records c
  abbrev from : ℕ → Items first → Read Picture
  from n c = together (picture_from first h c) (walk n s (place c))

  abbrev at_close : Items first → List ℕ → Read Picture
  at_close c bs = next (closing (counted (sections first) c) bs) (λ n q. more (picture_from first h c) q)

  -- one kind of record after another: c are the records passed, and one kind of them still grows
  module _ {A : Type 0} (w : Row A) (test : A → Bool) (cap rest : ℕ) (c : List A → Items first) (hand : ℕ → A → Handed) (K : List A → List ℕ → Read Picture) (Good : List A → List ℕ → Type 0) where
    abbrev Kind : Type 0
    Kind = Phase w test cap rest s (λ xs. picture_from first h (c xs)) (λ xs. place (c xs)) hand K Good

    through : Kind → (n : ℕ) (bs : List ℕ) → Good [] bs → cap + rest ≤ n → from n (c []) ≡ next (many w (λ earlier. test) cap [] bs) K
    through p n bs g l = phase w test cap rest s (λ xs. picture_from first h (c xs)) (λ xs. place (c xs)) hand K Good p cap n [] bs g (omega arith) l

  -- ---- the records

  module _ (es : List Entry) (ks : List Backpointer) where
    abbrev with_records : List Record → Items first
    with_records rs = (es, (ks, (rs, tt)))

    -- no entry and no back-pointer is handed out here
    record Records (rs : List Record) (bs : List ℕ) : Type 0 where
      passed : Behind (with_records rs) bs
      no_entry : (marked (en first) bs && (eqb (length ks) 0 && eqb (length rs) 0)) ≡ false
      no_backpointer : (marked (bp first) bs && eqb (length rs) 0) ≡ false

    record-handed : (rs : List Record) (bs : List ℕ) → Records rs bs → marked (lg first) bs ≡ true
        → handed_at s (place (with_records rs)) ≡ hands (hands_record (place (with_records rs))) (place (with_records rs)) (leb max_records (length rs)) (body (lg first) FieldOutOfRange (record_fits h) bs)
    unfolding handed_next
    record-handed rs bs g m = here s bytes h tail headed (with_records rs) bs g.passed ∙ rw (g.no_entry, g.no_backpointer, m) refl

    close-handed : (rs : List Record) (bs : List ℕ) → Records rs bs → marked (lg first) bs ≡ false
        → handed_at s (place (with_records rs)) ≡ hands_close (place (with_records rs)) (closing (length es + length ks + length rs) bs)
    unfolding handed_next
    close-handed rs bs g m = here s bytes h tail headed (with_records rs) bs g.passed ∙ rw (g.no_entry, g.no_backpointer, m) refl

    closes : (n : ℕ) (rs : List Record) (bs : List ℕ) → Records rs bs → marked (lg first) bs ≡ false → 1 ≤ n → from n (with_records rs) ≡ at_close (with_records rs) bs
    unfolding counted
    closes zero rs bs g m l = absurd (omega arith)
    closes (suc n) rs bs g m l =
        let e : length es + length ks + length rs ≡ length es + (length ks + (length rs + 0)) = omega arith in
        step-close s (place (with_records rs)) (length es + length ks + length rs) bs n _ (close-handed rs bs g m)
        ∙ ap (λ (k : ℕ). next (closing k bs) (λ i q. more (picture_from first h (with_records rs)) q)) e

    record-phase : Kind (lg first) (record_fits h) max_records 1 with_records hands_record (λ rs bs. at_close (with_records rs) bs) Records
    unfolding join
    record-phase =
        record {
          some = omega arith;
          handed = record-handed;
          joins = λ rs x on. refl;
          leads = λ rs x. omega (arith, snoc-length rs x);
          grows = λ rs bs x r g m l b.
              record {
                passed = record-passed s bytes h tail headed es ks rs bs r x g.passed m l b;
                no_entry = rw (not_none (eqb (length ks) 0) rs x) (and-false (marked (en first) r));
                no_backpointer = not_none (marked (bp first) r) rs x;
              };
          stops = closes;
        }

  -- ---- the back-pointers, and then the records

  module _ (es : List Entry) where
    abbrev with_backpointers : List Backpointer → Items first
    with_backpointers ks = (es, (ks, ([], tt)))

    -- no entry is handed out here
    record Backpointers (ks : List Backpointer) (bs : List ℕ) : Type 0 where
      passed : Behind (with_backpointers ks) bs
      no_entry : (marked (en first) bs && eqb (length ks) 0) ≡ false

    abbrev on_records : List Backpointer → List ℕ → Read Picture
    on_records ks bs = next (many (lg first) (λ earlier. record_fits h) max_records [] bs) (λ rs r. at_close (with_records es ks rs) r)

    to-records : (n : ℕ) (ks : List Backpointer) (bs : List ℕ) → Backpointers ks bs → marked (bp first) bs ≡ false → from_records ≤ n → from n (with_backpointers ks) ≡ on_records ks bs
    to-records n ks bs g m =
        through (lg first) (record_fits h) max_records 1 (with_records es ks) hands_record (λ rs r. at_close (with_records es ks rs) r) (Records es ks) (record-phase es ks) n bs
        (record { passed = g.passed; no_entry = rw (and-true (eqb (length ks) 0)) g.no_entry; no_backpointer = rw m refl })

    backpointer-handed : (ks : List Backpointer) (bs : List ℕ) → Backpointers ks bs → marked (bp first) bs ≡ true
        → handed_at s (place (with_backpointers ks)) ≡ hands (hands_backpointer (place (with_backpointers ks))) (place (with_backpointers ks)) (leb max_backpointers (length ks)) (body (bp first) FieldOutOfRange (backpointer_fits h) bs)
    unfolding handed_next en bp
    backpointer-handed ks bs g m = here s bytes h tail headed (with_backpointers ks) bs g.passed ∙ rw (other-mark (en first) (bp first) bs refl m, m) refl

    backpointer-phase : Kind (bp first) (backpointer_fits h) max_backpointers from_records with_backpointers hands_backpointer on_records Backpointers
    unfolding join
    backpointer-phase =
        record {
          some = omega arith;
          handed = backpointer-handed;
          joins = λ ks x on. refl;
          leads = λ ks x. omega (arith, snoc-length ks x);
          grows = λ ks bs x r g m l b.
              record { passed = backpointer-passed s bytes h tail headed es ks bs r x g.passed m l b; no_entry = not_none (marked (en first) r) ks x };
          stops = to-records;
        }

  -- ---- the entries, and then the back-pointers

  abbrev on_backpointers : List Entry → List ℕ → Read Picture
  on_backpointers es bs = next (many (bp first) (λ earlier. backpointer_fits h) max_backpointers [] bs) (on_records es)

  to-backpointers : (n : ℕ) (es : List Entry) (bs : List ℕ) → Behind (with_entries es) bs → marked (en first) bs ≡ false → from_backpointers ≤ n → from n (with_entries es) ≡ on_backpointers es bs
  to-backpointers n es bs g m =
      through (bp first) (backpointer_fits h) max_backpointers from_records (with_backpointers es) hands_backpointer (on_records es) (Backpointers es) (backpointer-phase es) n bs (record { passed = g; no_entry = rw m refl })

  entry-handed : (es : List Entry) (bs : List ℕ) → Behind (with_entries es) bs → marked (en first) bs ≡ true
      → handed_at s (place (with_entries es)) ≡ hands (hands_entry (place (with_entries es))) (place (with_entries es)) (leb max_entries (length es)) (body (en first) FieldOutOfRange (entry_fits h) bs)
  unfolding handed_next
  entry-handed es bs g m = here s bytes h tail headed (with_entries es) bs g ∙ rw m refl

  entry-phase : Kind (en first) (entry_fits h) max_entries from_backpointers with_entries hands_entry on_backpointers (λ es bs. Behind (with_entries es) bs)
  unfolding join
  entry-phase =
      record {
        some = omega arith;
        handed = entry-handed;
        joins = λ es x on. refl;
        leads = λ es x. omega (arith, snoc-length es x);
        grows = λ es bs x r. entry-passed s bytes h tail headed es bs r x;
        stops = to-backpointers;
      }

  -- ---- behind the header

  begun : Behind (with_entries []) tail
  unfolding put_table put_rows fits
  begun =
      let o = one_only (hd first) (lawful-hd first) FieldOutOfRange head_fits s h tail bytes headed in
      record {
        split = o.0 ∙ ap (λ (l : List ℕ). l ++ tail) (sym (append-nil (put_row (hd first) h)));
        long = ap length (append-nil (put_row (hd first) h)) ∙ head-length h;
        entries = refl;
        backpointers = refl;
        records = refl;
      }

  pub behind-header : (n : ℕ) → from_entries ≤ n → from n (with_entries []) ≡ next (many (en first) (λ earlier. entry_fits h) max_entries [] tail) on_backpointers
  behind-header n = through (en first) (entry_fits h) max_entries from_backpointers with_entries hands_entry on_backpointers (λ es bs. Behind (with_entries es) bs) entry-phase n tail begun

-- ---- `read`, section by section

section-first : {H B : Type 0} (s : Section H) (t : Table H) (h : H) (bs : List ℕ) (f : Contents (s before t) → List ℕ → Read B)
    → next (read_table (s before t) h bs) f ≡ next (many s.row (s.test h) s.room [] bs) (λ xs r. next (read_table t h r) (λ c q. f (xs, c) q))
unfolding read_table next
section-first s t h bs f =
    next-next (many s.row (s.test h) s.room [] bs) (λ xs r. next (read_table t h r) (λ c q. more (xs, c) q)) f
    ∙ next-same (many s.row (s.test h) s.room [] bs) _ _ (λ xs r e. next-next (read_table t h r) (λ c q. more (xs, c) q) f)

sections-read : {B : Type 0} (h : Head) (bs : List ℕ) (f : Items first → List ℕ → Read B)
    → next (read_table (sections first) h bs) f
    ≡ next (many (en first) (λ earlier. entry_fits h) max_entries [] bs)
    (λ es r. next (many (bp first) (λ earlier. backpointer_fits h) max_backpointers [] r)
    (λ ks q. next (many (lg first) (λ earlier. record_fits h) max_records [] q)
    (λ rs o. f (es, (ks, (rs, tt))) o)))
unfolding read_table next
sections-read h bs f =
    section-first (entry_section first) (backpointer_section first before record_section first before close) h bs f
    ∙ next-same (many (en first) (λ earlier. entry_fits h) max_entries [] bs) _ _
    (λ es r e.
    section-first (backpointer_section first) (record_section first before close) h r (λ c q. f (es, c) q)
    ∙ next-same (many (bp first) (λ earlier. backpointer_fits h) max_backpointers [] r) _ _ (λ ks q i. section-first (record_section first) close h q (λ c o. f (es, (ks, c)) o)))

-- ---- the whole walk

module _ (n : ℕ) (s : List ℕ) where
  begins-with : (R : Read Head) → one (hd first) FieldOutOfRange head_fits s ≡ R → handed_at s 0 ≡ handed_under s 0 R
  unfolding handed_at
  begins-with R e = ap (handed_under s 0) e

  header_refused : (why : Refusal) → one (hd first) FieldOutOfRange head_fits s ≡ fail why → together no_picture (walk (suc n) s 0) ≡ fail why
  unfolding walk together handed_under join
  header_refused why e = rw (begins-with (fail why) e) refl

  header-passed : (h : Head) (r : List ℕ) → one (hd first) FieldOutOfRange head_fits s ≡ more h r → together no_picture (walk (suc n) s 0) ≡ together (picture_from first h (with_entries [])) (walk n s (place (with_entries [])))
  unfolding walk together handed_under join
  header-passed h r e = rw (begins-with (more h r) e) refl

pub walk-reads : WalkReads
unfolding read read_tables next
walk-reads zero s l a = absurd (omega arith)
walk-reads (suc n) s l a = over (one (hd first) FieldOutOfRange head_fits s) refl
  where
    over : (R : Read Head) → one (hd first) FieldOutOfRange head_fits s ≡ R → together no_picture (walk (suc n) s 0) ≡ next R (λ h r. read_tables first h r)
    over (fail why) e = header_refused n s why e
    over (more h r) e = header-passed n s h r e ∙ behind-header s a h r e n (omega arith) ∙ sym (sections-read h r _)
