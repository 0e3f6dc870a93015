-- What a reader hands out on its way through a picture, and what that is, put together: it is what `read` says of the bytes.
use Rattle.std.specs.Prelude.{true, List, [], ◌∷◌, ◌++◌, ◌≡◌, ℕ, suc, zero, ◌+◌, ◌≤◌}
use Rattle.lists.specs.Lists.{all}
use Rattle.codec.specs.Codec.{is_byte}
use Rattle.protocol.specs.declared.Refusal.TheVariants.{EndsEarly}
use Rattle.protocol.specs.Bounds.{max_backpointers, max_entries, max_records}
use Rattle.protocol.specs.Tables.{with_backpointers, with_entries, with_records}
use Rattle.picture.specs.declared.Handed.{Handed}
use Rattle.picture.specs.declared.Part.{Part}
use Rattle.picture.specs.declared.Part.TheVariants.{Head as HeadPart, Entry as EntryPart, Backpointer as BackpointerPart, Record as RecordPart, Close, Refused}
use Rattle.picture.specs.Rows.{Read, fail, more}
use Rattle.picture.specs.Picture.{Picture, first, picture_from, read}
use Rattle.picture.specs.Answers.{no_picture}
use Rattle.picture.specs.Standing.{handed_at}

-- what `take` hands out from a place on, called n times: each from the place to which the one before led
unfoldable pub walk : ℕ → List ℕ → ℕ → List Handed
walk zero s at = []
walk (suc n) s at = handed_at s at ∷ walk n s (handed_at s at).next

-- a header begins a picture, a record is added to it, the close ends it, and a refusal refuses it
unfoldable pub join : Part → Picture → (Picture → Read Picture) → Read Picture
join (HeadPart h) x on = on (picture_from first h ([], ([], ([], tt))))
join (EntryPart e) x on = on (record { partition = x.partition; count = x.count; tables = with_entries x.tables (x.tables.entries ++ e ∷ []) })
join (BackpointerPart b) x on = on (record { partition = x.partition; count = x.count; tables = with_backpointers x.tables (x.tables.backpointers ++ b ∷ []) })
join (RecordPart r) x on = on (record { partition = x.partition; count = x.count; tables = with_records x.tables (x.tables.records ++ r ∷ []) })
join Close x on = more x []
join (Refused why) x on = fail why

-- what was handed out, put together behind x; too few steps end early
unfoldable pub together : Picture → List Handed → Read Picture
together x [] = fail EndsEarly
together x (g ∷ gs) = join g.part x (λ y. together y gs)

-- a header, as many entries, back-pointers and records as there may be, and the close
abbrev pub most_steps : ℕ
most_steps = 1 + max_entries + max_backpointers + max_records + 1

-- run to its end, the reader tells of any bytes what `read` does: the same picture, or the same refusal
abbrev pub WalkReads : Type 0
WalkReads = (n : ℕ) (s : List ℕ) → most_steps ≤ n → all is_byte s ≡ true → together no_picture (walk n s 0) ≡ read first s
