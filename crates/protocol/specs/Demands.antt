-- The words of the third demand: what is said of tables, and of a run of events.
use Rattle.std.specs.Prelude.{Bool, ◌&&◌, false, true, ◌⊎◌, ◌≡◌, ◌<◌, ◌≤◌, ℕ, eqb, length}
use mathlib.Core.List.{List, Memᴰ}
use Rattle.lists.specs.Lists.{keep}
use Rattle.protocol.specs.Elements.{Answer, Backpointer, Entry, Record, adds, is_accepted}
use Rattle.protocol.specs.Events.{advancing, crashing, creating, cutting, delivering, Event, linking, opening, recovering, unlinking, answers}
use Rattle.protocol.specs.Tables.{Model, entry_bears, entry_of, partition, partition_count, record_bears, totals}

-- ---- names and back-pointers

-- the back-pointer that an entry e of partition p calls for, and the entry that a back-pointer b of partition q calls for
abbrev pub backpointer_for : ℕ → Entry → Backpointer
backpointer_for p e = record { object = e.object; parent = p; directory = e.directory; name = e.name; number = e.number }

abbrev pub entry_for : ℕ → Backpointer → Entry
entry_for q b = record { directory = b.directory; name = b.name; partition = q; object = b.object; number = b.number }

-- "every name's object holds the back-pointer with that name's number"
abbrev pub NamesHold : Model → Type 0
NamesHold m =
    (p : ℕ) (e : Entry) → Memᴰ e (partition m p).entries
    → Memᴰ (backpointer_for p e) (partition m e.partition).backpointers

abbrev pub HasName : Model → ℕ → Backpointer → Type 0
HasName m q b = Memᴰ (entry_for q b) (partition m b.parent).entries

-- a record of the parent's log that says the same
abbrev pub HasOpenRecord : Model → ℕ → Backpointer → Type 0
HasOpenRecord m q b = (r : Record) × Memᴰ r (partition m b.parent).records × (entry_of r ≡ entry_for q b)

-- "every back-pointer without its name has an open log record"
abbrev pub AllAccounted : Model → Type 0
AllAccounted m =
    (q : ℕ) (b : Backpointer) → Memᴰ b (partition m q).backpointers → HasName m q b ⊎ HasOpenRecord m q b

abbrev pub backpointer_bears : ℕ → ℕ → Backpointer → Bool
backpointer_bears p n b = eqb b.parent p && eqb b.number n

-- "names and back-pointers match one for one": each has the other, and neither stands twice
pub record Matched (m : Model) : Type 0 where
  pub names_hold : NamesHold m
  pub named : (q : ℕ) (b : Backpointer) → Memᴰ b (partition m q).backpointers → HasName m q b
  pub entries_once : (p n : ℕ) → length (keep (entry_bears n) (partition m p).entries) ≤ 1
  pub backpointers_once : (q p n : ℕ) → length (keep (backpointer_bears p n) (partition m q).backpointers) ≤ 1

-- ---- what follows when all are up

abbrev pub AllUp : Model → Type 0
AllUp m = (p : ℕ) → p < partition_count m → (partition m p).up ≡ true

unfoldable pub open_records : Model → ℕ
open_records m = (totals m).records

-- "only advances and deliveries"
abbrev pub is_step : Event → Bool
is_step (linking p d s q o) = false
is_step (creating p d s q o) = false
is_step (unlinking p d s) = false
is_step (advancing p n) = true
is_step (delivering s r) = true
is_step (cutting a b) = false
is_step (crashing p) = false
is_step (recovering p) = false
is_step (opening k) = false

-- "at most eight accepted steps for each record then open"
abbrev pub steps_per_record : ℕ
steps_per_record = 8

-- how many of these events are accepted, one after the other
unfoldable pub accepted_in : List Event → Model → ℕ
accepted_in es m = length (keep (λ (a : Answer). is_accepted a.refusal) (answers es m))

-- a link or create record that bears the number
abbrev pub still_adds : ℕ → Record → Bool
still_adds n r = record_bears n r && adds r.kind
