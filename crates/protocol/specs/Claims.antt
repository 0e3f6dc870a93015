-- What is proved of these definitions: the statements that the contract of `claims` gathers.
use Rattle.std.specs.Prelude.{false, true, List, [], ◌∷◌, map, ◌⊎◌, ◌≡◌, ◌*◌, ◌<◌, ◌≤◌, ℕ, length}
use Rattle.lists.specs.Lists.{all, keep}
use Rattle.protocol.specs.Answers.{Outcome, accepted, refuse}
use Rattle.protocol.specs.Ask.{ask, unlink}
use Rattle.protocol.specs.Bounds.{max_entries, max_messages, max_partitions, max_records}
use Rattle.protocol.specs.Deliver.{is_exactly}
use Rattle.protocol.specs.Demands.{AllAccounted, AllUp, Matched, NamesHold, accepted_in, is_step, open_records, steps_per_record, still_adds}
use Rattle.protocol.specs.Elements.{Accepted, Answer, Kind, Message, Name, OutOfOrder, Record, Tally, adds, is_one, is_other, is_request, is_sent}
use Rattle.protocol.specs.Events.{advancing, crashing, creating, cutting, delivering, Event, linking, opening, recovering, unlinking, answers, apply, bare, run}
use Rattle.protocol.specs.Example.{answered, left, schedule}
use Rattle.protocol.specs.Lines.{lines}
use Rattle.protocol.specs.Order.{in_order}
use Rattle.protocol.specs.Settle.{Settled, settle, settle_by, steps_by, zero_tally}
use Rattle.protocol.specs.Starred.{starred, worked}
use Rattle.protocol.specs.Tables.{Model, entry_bears, fresh, in_place, partition, queue, record_bears, set_queue, stands_under, totals}

-- Claim 1, the order is kept: from any tables in order every event leaves tables in order and does not answer 16; and so does
-- every sequence of events from a fresh start.
pub record OrderKept : Type 0 where
  pub kept : (e : Event) (m : Model) → in_order m ≡ true → in_order (apply e m).model ≡ true
  pub not_sixteen : (e : Event) (m : Model) → in_order m ≡ true → (apply e m).answer.refusal ≡ OutOfOrder → ⊥
  pub always : (k : ℕ) → 1 ≤ k → k ≤ max_partitions → (es : List Event) → in_order (run es (fresh k)) ≡ true
  pub never_sixteen : (k : ℕ) → 1 ≤ k → k ≤ max_partitions → (es : List Event) (e : Event) → (apply e (run es (fresh k))).answer.refusal ≡ OutOfOrder → ⊥

-- Claim 2, demand 3's first sentence: "From a fresh start, after any sequence of events, every name's object holds the
-- back-pointer with that name's number, and every back-pointer without its name has an open log record."
pub record Safety : Type 0 where
  pub names_hold : (k : ℕ) → 1 ≤ k → k ≤ max_partitions → (es : List Event) → NamesHold (run es (fresh k))
  pub accounted : (k : ℕ) → 1 ≤ k → k ≤ max_partitions → (es : List Event) → AllAccounted (run es (fresh k))

-- of the tables m, and any advances and deliveries after them
pub record Ends (m : Model) (steps : List Event) : Type 0 where
  -- "some such step is accepted while any record is open"
  pub goes_on : (open_records (run steps m) ≡ 0 → ⊥) → (e : Event) × (is_step e ≡ true) × (accepted (apply e (run steps m)) ≡ true)
  -- "at most eight accepted steps for each record then open"
  pub eight : accepted_in steps m ≤ steps_per_record * open_records m
  -- after which "all logs are empty"
  pub empties : steps_per_record * open_records m ≤ accepted_in steps m → open_records (run steps m) ≡ 0
  -- "and names and back-pointers match one for one"
  pub matched : open_records (run steps m) ≡ 0 → Matched (run steps m)

-- Claim 3, demand 3's second sentence: "If all partitions are then up and only advances and deliveries follow, …"
pub record Settles : Type 0 where
  pub ends : (k : ℕ) → 1 ≤ k → k ≤ max_partitions → (es : List Event) → AllUp (run es (fresh k))
      → (steps : List Event) → all is_step steps ≡ true → Ends (run es (fresh k)) steps
  -- the bound holds from any tables in order, loaded ones too, whoever is up
  pub eight : (m : Model) → in_order m ≡ true → (steps : List Event) → all is_step steps ≡ true → accepted_in steps m ≤ steps_per_record * open_records m

-- of a settling run from the tables m, with what it gave: it took the steps `steps_by apply n m`
pub record Takes (n : ℕ) (m : Model) (z : Settled) : Type 0 where
  pub accepts : z.refusal ≡ Accepted
  pub are_steps : all is_step (steps_by apply n m) ≡ true
  pub all_accepted : accepted_in (steps_by apply n m) m ≡ length (steps_by apply n m)
  pub reaches : z.model ≡ run (steps_by apply n m) m
  pub counts : z.tally.steps ≡ length (steps_by apply n m)
  pub ones : z.tally.ones ≡ length (keep (λ (a : Answer). is_one a.reply) (answers (steps_by apply n m) m))
  pub others : z.tally.others ≡ length (keep (λ (a : Answer). is_other a.reply) (answers (steps_by apply n m) m))
  pub most : length (steps_by apply n m) ≤ n
  pub eight : length (steps_by apply n m) ≤ steps_per_record * open_records m
  pub stops : (length (steps_by apply n m) ≡ n) ⊎ ((e : Event) → is_step e ≡ true → accepted (apply e (run (steps_by apply n m) m)) ≡ false)

-- Claim 4, settle takes and counts exactly the accepted steps.
pub record Settling : Type 0 where
  pub takes : (n : ℕ) (t : Tally) (m : Model) → in_order m ≡ true → Takes n m (settle n t m)
  pub order : (n : ℕ) (t : Tally) (m : Model) → in_order m ≡ true → in_order (settle n t m).model ≡ true
  -- one test of the order before the run is as good as one before each step
  pub untested : (n : ℕ) (t : Tally) (m : Model) → in_order m ≡ true → settle n t m ≡ settle_by bare n zero_tally m
  pub empties : (n : ℕ) (t : Tally) (m : Model) → in_order m ≡ true → AllUp m → steps_per_record * open_records m ≤ n → open_records (settle n t m).model ≡ 0
  -- full logs on all four partitions: 512 steps
  pub small : (n : ℕ) (t : Tally) (m : Model) → in_order m ≡ true → (settle n t m).tally.steps ≤ steps_per_record * (max_partitions * max_records)

-- Claim 5, "A refusal leaves the tables … unchanged, the tally too", and no number or reply comes with it.
pub record RefusalsKeep : Type 0 where
  pub event : (e : Event) (m : Model) → accepted (apply e m) ≡ false → apply e m ≡ refuse (apply e m).answer.refusal m
  pub settle : (n : ℕ) (t : Tally) (m : Model) → in_order m ≡ false → settle n t m ≡ record { refusal = OutOfOrder; tally = t; model = m }

-- a statement S of a call's inputs x and its outcome r has at most one outcome for each input
abbrev pub Decides : {X R : Type 0} → (X → R → Type 0) → Type 0
Decides {X} {R} S = (x : X) (a b : R) → S x a → S x b → a ≡ b

-- and no two outcomes meet one statement
pub record OneOutcome : Type 0 where
  pub event : (e : Event) → Decides (λ (m : Model) (o : Outcome). o ≡ apply e m)
  pub settle : (n : ℕ) (t : Tally) → Decides (λ (m : Model) (z : Settled). z ≡ settle n t m)

-- after an event that tells of a failure, no link or create record bears its number
abbrev pub ToldLast : Event → Model → Type 0
ToldLast (linking p d s q o) m = ⊥
ToldLast (creating p d s q o) m = ⊥
ToldLast (unlinking p d s) m = ⊥
ToldLast (advancing p n) m = keep (still_adds n) (partition m p).records ≡ []
ToldLast (delivering s r) m = ⊥
ToldLast (cutting a b) m = ⊥
ToldLast (crashing p) m = ⊥
ToldLast (recovering p) m = ⊥
ToldLast (opening k) m = ⊥

-- The last of 'Readings that lose a file' is shut out: replies 2 to 6 come with the advance that closes or turns the record.
pub record FailuresLast : Type 0 where
  pub last : (e : Event) (m : Model) → in_order m ≡ true → is_other (apply e m).answer.reply ≡ true → ToldLast e (apply e m).model

-- Claim 6, the starred cases and the worked rehearsal, whose first line opens the tables whatever they were.
pub record Cases : Type 0 where
  pub starred : map worked starred ≡ starred
  pub rehearsed : (m : Model) → lines schedule m ≡ answered
  pub nothing_left : (m : Model) → totals (run schedule m) ≡ left

-- Claim 1's room: what code that has tested the order may rely on.
pub record Room : Type 0 where
  -- a queue to send in
  pub request : (m : Model) → in_order m ≡ true → (p n : ℕ) (r : Record) (rs : List Record) → keep (record_bears n) (partition m p).records ≡ r ∷ rs
      → is_sent r.stage ≡ false → length (queue m p r.partition) < max_messages
  -- a queue to answer in, the request being taken out
  pub answer : (m : Model) → in_order m ≡ true → (s r : ℕ) (x : Message) (l : List Message) → s < max_partitions → r < max_partitions → queue m s r ≡ x ∷ l
      → is_request x.body ≡ true → length (queue (set_queue m s r l) r s) < max_messages
  -- a place for the entry
  pub entry : (m : Model) → in_order m ≡ true → (p n : ℕ) (r : Record) (rs : List Record) → keep (record_bears n) (partition m p).records ≡ r ∷ rs
      → adds r.kind ≡ true → keep (entry_bears n) (partition m p).entries ≡ [] → length (partition m p).entries < max_entries
  -- a place for the record
  pub asked : (k : Kind) (m : Model) (p d : ℕ) (s : Name) (q o : ℕ) → accepted (ask k m p d s q o) ≡ true → length (partition m p).records < max_records
  pub unlinked : (m : Model) (p d : ℕ) (s : Name) → accepted (unlink m p d s) ≡ true → length (partition m p).records < max_records
  -- one of each number, name and place
  pub records : (m : Model) → in_order m ≡ true → (p n : ℕ) → length (keep (record_bears n) (partition m p).records) ≤ 1
  pub entries : (m : Model) → in_order m ≡ true → (p n : ℕ) → length (keep (entry_bears n) (partition m p).entries) ≤ 1
  pub names : (m : Model) → in_order m ≡ true → (p d : ℕ) (s : Name) → length (keep (stands_under d s) (partition m p).entries) ≤ 1
  pub places : (m : Model) → in_order m ≡ true → (q o p d : ℕ) (s : Name) → length (keep (in_place o p d s) (partition m q).backpointers) ≤ 1
  pub removed : (m : Model) → in_order m ≡ true → (q p : ℕ) (x : Message) → length (keep (is_exactly p x) (partition m q).backpointers) ≤ 1
