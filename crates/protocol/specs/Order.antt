-- Tables in order: O1 to O7 of document 01, each a test, and all of them together.
use Rattle.std.specs.Prelude.{Bool, ◌&&◌, ◌||◌, not, [], ◌∷◌, ◌+◌, ℕ, eqb, leb, length}
use Rattle.lists.specs.Lists.{all, any, apart, below, every, is_none, keep}
use Rattle.names.specs.Names.{good_name, same_name}
use Rattle.protocol.specs.Bounds.{largest_number, max_backpointers, max_entries, max_messages, max_partitions, max_records, queue_count}
use Rattle.protocol.specs.Elements.{Backpointer, Body, Entry, Message, No, NoBecause, Record, Request, Yes, body_fits, is_ready, is_request, is_sent, same_kind, stage_fits}
use Rattle.protocol.specs.Tables.{Model, Partition, claimed, entry_bears, in_place, is_directory, is_object, is_partition, partition, partition_count, queue, record_bears, stands_under}

abbrev pub each_partition : Model → (ℕ → Bool) → Bool
each_partition m f = below (partition_count m) f

-- every ordered pair, of partitions that are not there too
abbrev pub each_pair : (ℕ → ℕ → Bool) → Bool
each_pair f = below max_partitions (λ s. below max_partitions (f s))

-- ---- O1: "all numbers, counts, names, stages and unused slots as above"

unfoldable pub in_range : Model → ℕ → ℕ → ℕ → Bool
in_range m d q o = every (is_directory d ∷ is_partition m q ∷ is_object o ∷ [])

abbrev pub entry_in_range : Model → Entry → Bool
entry_in_range m e = in_range m e.directory e.partition e.object && good_name e.name

abbrev pub backpointer_in_range : Model → Backpointer → Bool
backpointer_in_range m b = in_range m b.directory b.parent b.object && good_name b.name

abbrev pub record_in_range : Model → Record → Bool
record_in_range m r = in_range m r.directory r.partition r.object && (good_name r.name && stage_fits r.kind r.stage)

unfoldable pub partition_in_range : Model → Partition → Bool
partition_in_range m x =
    every
    (leb x.last largest_number
    ∷ leb (length x.entries) max_entries
    ∷ leb (length x.backpointers) max_backpointers
    ∷ leb (length x.records) max_records
    ∷ all (entry_in_range m) x.entries
    ∷ all (backpointer_in_range m) x.backpointers
    ∷ all (record_in_range m) x.records
    ∷ [])

unfoldable pub o1 : Model → Bool
o1 m =
    every
    (leb 1 (partition_count m)
    ∷ leb (partition_count m) max_partitions
    ∷ eqb (length m.queues) queue_count
    ∷ each_partition m (λ p. partition_in_range m (partition m p))
    ∷ each_pair (λ s r. leb (length (queue m s r)) max_messages)
    ∷ [])

-- ---- O2: "no two entries of a partition share directory and name, or number"

abbrev pub entries_clash : Entry → Entry → Bool
entries_clash a b = stands_under a.directory a.name b || entry_bears a.number b

abbrev pub entries_apart : Partition → Bool
entries_apart x = apart entries_clash x.entries

unfoldable pub o2 : Model → Bool
o2 m = each_partition m (λ p. entries_apart (partition m p))

-- ---- O3: "no two records of a partition share a number"

abbrev pub records_clash : Record → Record → Bool
records_clash a b = record_bears a.number b

abbrev pub records_apart : Partition → Bool
records_apart x = apart records_clash x.records

unfoldable pub o3 : Model → Bool
o3 m = each_partition m (λ p. records_apart (partition m p))

-- ---- O4: "no two back-pointers share object, parent, directory and name; no number is 0 or above its giver's last"

abbrev pub backpointers_clash : Backpointer → Backpointer → Bool
backpointers_clash a b = in_place a.object a.parent a.directory a.name b

abbrev pub backpointers_apart : Partition → Bool
backpointers_apart x = apart backpointers_clash x.backpointers

unfoldable pub given_by : Partition → ℕ → Bool
given_by x n = leb 1 n && leb n x.last

-- the giver is the partition itself, for entries and records, and the parent, for back-pointers
unfoldable pub numbers_given : Model → Partition → Bool
numbers_given m x =
    every
    (all (λ (e : Entry). given_by x e.number) x.entries
    ∷ all (λ (r : Record). given_by x r.number) x.records
    ∷ all (λ (b : Backpointer). given_by (partition m b.parent) b.number) x.backpointers
    ∷ [])

unfoldable pub o4 : Model → Bool
o4 m = each_partition m (λ p. backpointers_apart (partition m p) && numbers_given m (partition m p))

-- ---- O5: "entries, plus link and create records whose number no entry bears, are at most 64"

abbrev pub room_kept : Partition → Bool
room_kept x = leb (claimed x) max_entries

unfoldable pub o5 : Model → Bool
o5 m = each_partition m (λ p. room_kept (partition m p))

-- ---- O6: "each message has the kind, object, directory, name and number of a record in stage sent (a request from its
-- partition to the object's, or the answer back; a no to an add has a reason 3 to 6), and each such record has exactly one
-- message (its request or the answer)"

unfoldable pub matches : Record → Message → Bool
matches r x =
    every
    (eqb x.number r.number
    ∷ same_kind x.kind r.kind
    ∷ eqb x.directory r.directory
    ∷ eqb x.partition r.partition
    ∷ eqb x.object r.object
    ∷ same_name x.name r.name
    ∷ [])

-- of a message from s to r: the partition whose record it is about, and the one that the object is on
abbrev pub giver : Body → ℕ → ℕ → ℕ
giver Request s r = s
giver Yes s r = r
giver No s r = r
giver (NoBecause why) s r = r

abbrev pub holder : Body → ℕ → ℕ → ℕ
holder Request s r = r
holder Yes s r = s
holder No s r = s
holder (NoBecause why) s r = s

-- the record is sent towards q, and the message is of it
abbrev pub sent_as : Message → ℕ → Record → Bool
sent_as x q r = every (is_sent r.stage ∷ eqb r.partition q ∷ matches r x ∷ [])

abbrev pub has_record : Model → ℕ → ℕ → Message → Bool
has_record m s r x =
    body_fits x.kind x.body && any (sent_as x (holder x.body s r)) (partition m (giver x.body s r)).records

abbrev pub is_request_of : Record → Message → Bool
is_request_of r x = is_request x.body && matches r x

abbrev pub is_answer_to : Record → Message → Bool
is_answer_to r x = not (is_request x.body) && matches r x

-- how many messages a record of p has: its requests on the way there, and the answers on the way back
abbrev pub messages_for : Model → ℕ → Record → ℕ
messages_for m p r = length (keep (is_request_of r) (queue m p r.partition)) + length (keep (is_answer_to r) (queue m r.partition p))

abbrev pub has_one_message : Model → ℕ → Record → Bool
has_one_message m p r = not (is_sent r.stage) || eqb (messages_for m p r) 1

unfoldable pub o6 : Model → Bool
o6 m = each_pair (λ s r. all (has_record m s r) (queue m s r)) && each_partition m (λ p. all (has_one_message m p) (partition m p).records)

-- ---- O7: "a down partition has no messages from or to it and all its records ready"; one that is not there counts as down

abbrev pub all_ready : Partition → Bool
all_ready x = all (λ (r : Record). is_ready r.stage) x.records

unfoldable pub o7 : Model → Bool
o7 m =
    each_pair (λ s r. (partition m s).up && (partition m r).up || is_none (queue m s r))
    && each_partition m (λ p. (partition m p).up || all_ready (partition m p))

unfoldable pub in_order : Model → Bool
in_order m = every (o1 m ∷ o2 m ∷ o3 m ∷ o4 m ∷ o5 m ∷ o6 m ∷ o7 m ∷ [])
