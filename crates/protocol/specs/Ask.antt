-- Link, create and unlink: an ask opens a ready record (document 01, 'The nine events', 1 to 3).
use Rattle.std.specs.Prelude.{◌&&◌, List, [], ◌∷◌, suc, ℕ, ltb, length}
use Rattle.lists.specs.Lists.{is_none, keep}
use Rattle.names.specs.Names.{good_name}
use Rattle.protocol.specs.Answers.{Outcome, accept, check, refuse}
use Rattle.protocol.specs.Bounds.{largest_number, max_entries, max_records}
use Rattle.protocol.specs.Elements.{BadName, Down, EntriesFull, Entry, Kind, LogFull, Name, NameAbsent, NameExists, None, NumbersSpent, OutOfRange, Ready, Record, RecordOpen, Unlink}
use Rattle.protocol.specs.Order.{in_range}
use Rattle.protocol.specs.Tables.{Model, claimed, give_number, is_directory, is_partition, open_record, partition, record_bears, stands_under}

-- ---- link and create: partition p, directory d, name s, object o of partition q

abbrev pub asked : Kind → ℕ → Name → ℕ → ℕ → ℕ → Record
asked k d s q o n = record { kind = k; directory = d; name = s; partition = q; object = o; number = n; stage = Ready }

-- "gives the next number and opens a ready record"
abbrev pub open_ask : Kind → Model → ℕ → ℕ → Name → ℕ → ℕ → Outcome
open_ask k m p d s q o =
    accept (suc (partition m p).last) None (open_record (give_number m p) p (asked k d s q o (suc (partition m p).last)))

-- the refusals that look into the tables of p
unfoldable pub ask_tables : Kind → Model → ℕ → ℕ → Name → ℕ → ℕ → Outcome
ask_tables k m p d s q o =
    check (is_none (keep (stands_under d s) (partition m p).entries)) NameExists m
    (check (ltb (partition m p).last largest_number) NumbersSpent m
    (check (ltb (length (partition m p).records) max_records) LogFull m
    (check (ltb (claimed (partition m p)) max_entries) EntriesFull m
    (open_ask k m p d s q o))))

unfoldable pub ask : Kind → Model → ℕ → ℕ → Name → ℕ → ℕ → Outcome
ask k m p d s q o =
    check (is_partition m p && in_range m d q o) OutOfRange m
    (check (good_name s) BadName m
    (check (partition m p).up Down m
    (ask_tables k m p d s q o)))

-- ---- unlink: partition p, directory d, name s

abbrev pub unlink_of : Entry → Record
unlink_of e =
    record { kind = Unlink; directory = e.directory; name = e.name; partition = e.partition; object = e.object; number = e.number; stage = Ready }

-- "opens a ready record with the entry's object and number. No new number is given."
abbrev pub unlink_found : Model → ℕ → List Entry → Outcome
unlink_found m p [] = refuse NameAbsent m
unlink_found m p (e ∷ es) =
    check (is_none (keep (record_bears e.number) (partition m p).records)) RecordOpen m
    (check (ltb (length (partition m p).records) max_records) LogFull m
    (accept e.number None (open_record m p (unlink_of e))))

unfoldable pub unlink : Model → ℕ → ℕ → Name → Outcome
unlink m p d s =
    check (is_partition m p && is_directory d) OutOfRange m
    (check (good_name s) BadName m
    (check (partition m p).up Down m
    (unlink_found m p (keep (stands_under d s) (partition m p).entries))))
