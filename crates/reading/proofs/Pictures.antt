-- A whole picture: a law for each way through the code that reads its sections, and the picture.
use mathlib.Core.Bool.{false}
use mathlib.Core.List.{List, []}
use mathlib.Core.Path.{◌∙◌, ◌≡◌, ap, refl, sym}
use Prim.Native.Nat.{◌+◌, ◌≤◌, ℕ}
use native.Mathlib.Omega.{arith}
use lib.Dec.{ltb}
use lib.ListN.{drop, length}
use Rattle.std.specs.Prelude.{Err, Ok}
use Rattle.protocol.specs.Bounds.{max_backpointers, max_entries, max_records}
use Rattle.protocol.specs.declared.Backpointer.{Backpointer}
use Rattle.protocol.specs.declared.Entry.{Entry}
use Rattle.protocol.specs.declared.Record.{Record}
use Rattle.protocol.specs.declared.Refusal.{Refusal}
use Rattle.protocol.specs.declared.Refusal.TheVariants.{FieldOutOfRange}
use Rattle.tables.specs.View.{list_of, backpointers_of, entries_of, records_of}
use Rattle.tables.specs.declared.Partition.{Partition as Stored}
use Rattle.picture.specs.Answers.{Pictured, Tabled, items_in, picture_read}
use Rattle.picture.specs.Picture.{bp, en, hd, Items, lg, Picture, backpointer_fits, closing, entry_fits, first, head_fits, head_size, picture_from, read, read_tables, record_fits, sections}
use Rattle.picture.specs.Rows.{Read, counted, fail, many, marked, more, next, one, read_table}
use Rattle.picture.specs.declared.Gathered.{Gathered}
use Rattle.picture.specs.declared.Head.{Head}
use Rattle.picture.proofs.Forms.{lawful-hd}
use Rattle.picture.proofs.Rounds.{one_more}
use Rattle.decoding.proofs.Fields.{short-hd}
use Rattle.reading.proofs.Sectioned.{body-long}

-- ---- the sections

module _ (s : List ℕ) (h : Head) where
  abbrev asked : Read (Items first)
  asked = read_table (sections first) h (drop head_size s)

  pub entries-fail : (why : Refusal) → fail why ≡ many (en first) (λ earlier. entry_fits h) max_entries [] (drop head_size s) → fail why ≡ asked
  unfolding read_table next
  entries-fail why e = rw (← e) refl

  module _ (es : Gathered Entry max_entries) (g₁ : more (list_of es.list) (drop es.end s) ≡ many (en first) (λ earlier. entry_fits h) max_entries [] (drop head_size s)) where
    pub backpointers-fail : (why : Refusal) → fail why ≡ many (bp first) (λ earlier. backpointer_fits h) max_backpointers [] (drop es.end s) → fail why ≡ asked
    unfolding read_table next
    backpointers-fail why e = rw (← g₁) (rw (← e) refl)

    module _ (bs : Gathered Backpointer max_backpointers) (g₂ : more (list_of bs.list) (drop bs.end s) ≡ many (bp first) (λ earlier. backpointer_fits h) max_backpointers [] (drop es.end s)) where
      pub records-fail : (why : Refusal) → fail why ≡ many (lg first) (λ earlier. record_fits h) max_records [] (drop bs.end s) → fail why ≡ asked
      unfolding read_table next
      records-fail why e = rw (← g₁) (rw (← g₂) (rw (← e) refl))

      module _ (rs : Gathered Record max_records) (g₃ : more (list_of rs.list) (drop rs.end s) ≡ many (lg first) (λ earlier. record_fits h) max_records [] (drop bs.end s)) where
        pub sections-read : more (list_of es.list, (list_of bs.list, (list_of rs.list, tt))) (drop rs.end s) ≡ asked
        unfolding read_table next
        sections-read = rw (← g₁) (rw (← g₂) (rw (← g₃) refl))

-- ---- the picture

module _ (s : List ℕ) where
  picture-refused : (why : Refusal) → fail why ≡ read first s → Pictured s (Err why)
  picture-refused why q = record { answer = ap picture_read q; telling = q; counted = search }

  pub head-fail : (why : Refusal) → fail why ≡ one (hd first) FieldOutOfRange head_fits s → Pictured s (Err why)
  unfolding read next
  head-fail why e = picture-refused why (rw (← e) refl)

  module _ (h : Head) (headed : more h (drop head_size s) ≡ one (hd first) FieldOutOfRange head_fits s) where
    pub head-long : head_size ≤ length s
    unfolding one
    head-long =
        let m = one_more (hd first) (lawful-hd first) FieldOutOfRange head_fits s h (drop head_size s) (ltb (length s) 2) (marked (hd first) s) refl (sym headed) in
        body-long (hd first) 6 FieldOutOfRange (omega arith) short-hd head_fits s h _ m.1

    at-tables : read first s ≡ read_tables first h (drop head_size s)
    unfolding read next
    at-tables = rw (← headed) refl

    pub tables-fail : (why : Refusal) → fail why ≡ read_table (sections first) h (drop head_size s) → Pictured s (Err why)
    unfolding read_tables next
    tables-fail why e = picture-refused why (sym (at-tables ∙ rw (← e) refl))

    module _ (x : Stored) (at : ℕ) (met : more (items_in x) (drop at s) ≡ read_table (sections first) h (drop head_size s)) (t : Tabled h s (record { tables = x; end = at })) where
      shown : Picture
      shown = picture_from first h (items_in x)

      at-close : read first s ≡ next (closing (counted (sections first) (items_in x)) (drop at s)) (λ n q. more shown q)
      unfolding read_tables next shown
      at-close = at-tables ∙ rw (← met) refl

      module _ (n : ℕ) (m : n ≡ x.entries.count + x.backpointers.count + x.records.count) where
        all-counted : counted (sections first) (items_in x) ≡ n
        unfolding counted
        all-counted =
            let a : x.entries.count ≡ length (entries_of x.entries) = ap (λ (y : Stored). y.entries.count) t.stored in
            let b : x.backpointers.count ≡ length (backpointers_of x.backpointers) = ap (λ (y : Stored). y.backpointers.count) t.stored in
            let c : x.records.count ≡ length (records_of x.records) = ap (λ (y : Stored). y.records.count) t.stored in
            omega (arith, m, a, b, c)

        pub close-fail : (why : Refusal) → fail why ≡ closing n (drop at s) → Pictured s (Err why)
        unfolding next
        close-fail why e = picture-refused why (sym (at-close ∙ rw (all-counted, ← e) refl))

        pub picture-good : more n [] ≡ closing n (drop at s) → Pictured s (Ok (record { head = h; tables = x }))
        unfolding next shown
        picture-good e =
            let q : read first s ≡ more shown [] = at-close ∙ rw (all-counted, ← e) refl in
            let up : x.up ≡ false = ap (λ (y : Stored). y.up) t.stored in
            let last : x.last ≡ h.last = ap (λ (y : Stored). y.last) t.stored in
            record {
              answer = (λ i. Ok (record { head = h; tables = t.stored i })) ∙ sym (ap picture_read q);
              telling = sym (q ∙ λ i.
                  more
                  (record {
                    partition = h.partition;
                    count = h.count;
                    tables = record { up = sym up i; last = sym last i; entries = entries_of x.entries; backpointers = backpointers_of x.backpointers; records = records_of x.records };
                  })
                  []);
              counted = t.counted;
            }
