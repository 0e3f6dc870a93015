-- What a reader that stands at a place of a lent picture hands out there, and where it stands next (document 01, 'The picture':
-- "hands out one record at a time, staying at the close or a refusal").
use Rattle.std.specs.Prelude.{Bool, ◌&&◌, List, ℕ, ◌+◌, eqb, leb, ltb, length, take, drop, Result, Ok, Err}
use Rattle.lists.specs.Lists.{pick}
use Rattle.protocol.specs.declared.Backpointer.{Backpointer}
use Rattle.protocol.specs.declared.Entry.{Entry}
use Rattle.protocol.specs.declared.Record.{Record}
use Rattle.protocol.specs.declared.Refusal.{Refusal}
use Rattle.protocol.specs.declared.Refusal.TheVariants.{EndsEarly, FieldOutOfRange, MarkNotAllowed}
use Rattle.protocol.specs.Bounds.{max_entries, max_backpointers, max_records}
use Rattle.picture.specs.declared.Head.{Head}
use Rattle.picture.specs.declared.Handed.{Handed}
use Rattle.picture.specs.declared.Part.{Part}
use Rattle.picture.specs.declared.Part.TheVariants.{Head as HeadPart, Entry as EntryPart, Backpointer as BackpointerPart, Record as RecordPart, Close, Refused}
use Rattle.picture.specs.Rows.{Read, fail, more, one, body, marked, read_table}
use Rattle.picture.specs.Picture.{first, head_size, hd, en, bp, lg, head_fits, entry_fits, backpointer_fits, record_fits, sections, Items, closing}

-- ---- what is handed out

-- "staying at the close or a refusal"
abbrev pub stays : Part → ℕ → Handed
stays part at = record { part = part; next = at }

abbrev pub hands_head : Head → Handed
hands_head h = record { part = HeadPart h; next = head_size }

abbrev pub hands_entry : ℕ → Entry → Handed
hands_entry at e = record { part = EntryPart e; next = at + 18 }

abbrev pub hands_backpointer : ℕ → Backpointer → Handed
hands_backpointer at b = record { part = BackpointerPart b; next = at + 18 }

abbrev pub hands_record : ℕ → Record → Handed
hands_record at x = record { part = RecordPart x; next = at + 19 }

-- one too many of a kind is a refusal
unfoldable pub hands : {A : Type 0} → (A → Handed) → ℕ → Bool → Read A → Handed
hands hand at full (fail why) = stays (Refused why) at
hands hand at full (more x r) = pick full (stays (Refused FieldOutOfRange) at) (hand x)

unfoldable pub hands_close : ℕ → Read ℕ → Handed
hands_close at (fail why) = stays (Refused why) at
hands_close at (more n r) = stays Close at

-- what is handed out, or a refusal, at which the reader stays
abbrev pub handed : ℕ → Result Handed Refusal → Handed
handed at (Ok g) = g
handed at (Err why) = stays (Refused why) at

-- ---- behind a entries, b back-pointers and c records: a kind that stands before one of which there are some is not allowed

unfoldable pub handed_next : ℕ → Head → ℕ → ℕ → ℕ → List ℕ → Handed
handed_next at h a b c bs =
    pick (marked (en first) bs && (eqb b 0 && eqb c 0)) (hands (hands_entry at) at (leb max_entries a) (body (en first) FieldOutOfRange (entry_fits h) bs))
    (pick (marked (bp first) bs && eqb c 0) (hands (hands_backpointer at) at (leb max_backpointers b) (body (bp first) FieldOutOfRange (backpointer_fits h) bs))
    (pick (marked (lg first) bs) (hands (hands_record at) at (leb max_records c) (body (lg first) FieldOutOfRange (record_fits h) bs))
    (hands_close at (closing (a + b + c) bs))))

-- ---- at a place: what stands before it is read first, as the reader has met it

unfoldable pub handed_behind : List ℕ → ℕ → Head → Read (Items first) → Handed
handed_behind s at h (fail why) = stays (Refused why) at
handed_behind s at h (more c q) =
    pick (leb 1 (length q)) (stays (Refused MarkNotAllowed) at)
    (handed_next at h (length c.0) (length c.1.0) (length c.1.1.0) (drop at s))

unfoldable pub handed_under : List ℕ → ℕ → Read Head → Handed
handed_under s at (fail why) = stays (Refused why) at
handed_under s at (more h r) =
    pick (ltb at head_size) (hands_head h)
    (pick (ltb (length s) at) (stays (Refused EndsEarly) at)
    (handed_behind s at h (read_table (sections first) h (drop head_size (take at s)))))

unfoldable pub handed_at : List ℕ → ℕ → Handed
handed_at s at = handed_under s at (one (hd first) FieldOutOfRange head_fits s)
