-- What is asked of one partition among n, each clause as a test of the least that it looks at: one list, the count of partitions,
-- a last number.
use Rattle.std.specs.Prelude.{Bool, ◌&&◌, ◌||◌, List, [], ◌∷◌, ◌+◌, ℕ, leb, ltb, get_or, length}
use Rattle.lists.specs.Lists.{all, apart, every, keep}
use Rattle.names.specs.Names.{good_name}
use Rattle.protocol.specs.Bounds.{max_entries}
use Rattle.protocol.specs.Elements.{is_ready, stage_fits}
use Rattle.protocol.specs.Order.{backpointers_clash, entries_clash, records_clash}
use Rattle.protocol.specs.declared.Backpointer.{Backpointer}
use Rattle.protocol.specs.declared.Entry.{Entry}
use Rattle.protocol.specs.declared.Record.{Record}
use Rattle.tables.specs.View.{backpointers_of, entries_of, records_of, shaped_backpointers, shaped_entries, shaped_records, Entries, Backpointers, Records}
use Rattle.tables.specs.declared.Partition.{Partition}
use Rattle.protocol.specs.Tables.{is_directory, is_object, unentered}

unfoldable pub placed_among : ℕ → ℕ → ℕ → ℕ → Bool
placed_among n d q o = every (is_directory d ∷ ltb q n ∷ is_object o ∷ [])

unfoldable pub entry_among : ℕ → Entry → Bool
entry_among n e = placed_among n e.directory e.partition e.object && good_name e.name

unfoldable pub backpointer_among : ℕ → Backpointer → Bool
backpointer_among n b = placed_among n b.directory b.parent b.object && good_name b.name

unfoldable pub record_among : ℕ → Record → Bool
record_among n r = placed_among n r.directory r.partition r.object && (good_name r.name && stage_fits r.kind r.stage)

-- the number was given, where this is the giver's last
unfoldable pub given : ℕ → ℕ → Bool
given last n = leb 1 n && leb n last

-- the last numbers of the partitions, one after the other
unfoldable pub backpointer_given : List ℕ → Backpointer → Bool
backpointer_given lasts b = given (get_or lasts b.parent 0) b.number

abbrev pub entry_fine : ℕ → ℕ → Entry → Bool
entry_fine n last e = entry_among n e && given last e.number

abbrev pub backpointer_fine : ℕ → List ℕ → Backpointer → Bool
backpointer_fine n lasts b = backpointer_among n b && backpointer_given lasts b

abbrev pub record_fine : ℕ → ℕ → Record → Bool
record_fine n last r = record_among n r && given last r.number

unfoldable pub entries_fine : ℕ → ℕ → Entries → Bool
entries_fine n last x = every (shaped_entries x ∷ all (entry_fine n last) (entries_of x) ∷ apart entries_clash (entries_of x) ∷ [])

unfoldable pub backpointers_fine : ℕ → List ℕ → Backpointers → Bool
backpointers_fine n lasts x =
    every (shaped_backpointers x ∷ all (backpointer_fine n lasts) (backpointers_of x) ∷ apart backpointers_clash (backpointers_of x) ∷ [])

unfoldable pub records_fine : ℕ → ℕ → Records → Bool
records_fine n last x = every (shaped_records x ∷ all (record_fine n last) (records_of x) ∷ apart records_clash (records_of x) ∷ [])

unfoldable pub room_in : List Entry → List Record → Bool
room_in es rs = leb (length es + length (keep (unentered es) rs)) max_entries

abbrev pub ready_record : Record → Bool
ready_record r = is_ready r.stage

unfoldable pub partition_fine : ℕ → List ℕ → Partition → Bool
partition_fine n lasts p =
    every
    (entries_fine n p.last p.entries
    ∷ backpointers_fine n lasts p.backpointers
    ∷ records_fine n p.last p.records
    ∷ room_in (entries_of p.entries) (records_of p.records)
    ∷ (p.up || all ready_record (records_of p.records))
    ∷ [])
