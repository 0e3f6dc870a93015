-- Deliver: the oldest message from a sender to a receiver (document 01, 'The nine events', 5).
use Rattle.std.specs.Prelude.{Bool, ◌&&◌, false, true, List, [], ◌∷◌, ℕ, eqb, leb, length}
use Rattle.lists.specs.Lists.{keep, pick}
use Rattle.protocol.specs.Answers.{Outcome, accept, check, refuse}
use Rattle.protocol.specs.Bounds.{max_backpointers}
use Rattle.protocol.specs.Elements.{AddsIt, Backpointer, BackpointersFull, Body, Cleared, Create, Down, DropsIt, Held, Kind, Link, Message, No, NoBecause, None, ObjectIdle, ObjectInUse, OutOfRange, PlaceTaken, QueueEmpty, Ready, Refused, Request, SaysOnly, Stage, Unlink, Verdict, Yes}
use Rattle.protocol.specs.Tables.{Model, Partition, add_backpointer, drop_backpointer, in_place, is_partition, partition, queue, send, set_queue, set_stage}

-- ---- a request, at the object's partition: what it answers, and what it does before

abbrev pub backpointer_of : ℕ → Message → Backpointer
backpointer_of s x = record { object = x.object; parent = s; directory = x.directory; name = x.name; number = x.number }

-- the back-pointer stands where the message from s says
abbrev pub in_its_place : ℕ → Message → Backpointer → Bool
in_its_place s x b = in_place x.object s x.directory x.name b

-- "exactly the back-pointer with parent, directory, name and number equal"
abbrev pub is_exactly : ℕ → Message → Backpointer → Bool
is_exactly s x b = eqb b.number x.number && in_its_place s x b

abbrev pub of_object : ℕ → Backpointer → Bool
of_object o b = eqb b.object o

abbrev pub unless_full : Bool → Verdict
unless_full true = SaysOnly (NoBecause BackpointersFull)
unless_full false = AddsIt

-- Nothing stands in the place of a request to add; by the back-pointers of its object: "link to an idle object: no with 4.
-- Create of an object in use: no with 5. 64 back-pointers already: no with 6. Otherwise add it and say yes."
abbrev pub add_verdict : Kind → List Backpointer → Bool → Verdict
add_verdict Link [] full = SaysOnly (NoBecause ObjectIdle)
add_verdict Link (b ∷ bs) full = unless_full full
add_verdict Create [] full = unless_full full
add_verdict Create (b ∷ bs) full = SaysOnly (NoBecause ObjectInUse)
add_verdict Unlink bs full = SaysOnly No

-- "if the object has a back-pointer with that parent, directory and name, yes when the numbers are equal, else no with 3"
abbrev pub place_verdict : Message → List Backpointer → Verdict → Verdict
place_verdict x [] otherwise = otherwise
place_verdict x (b ∷ bs) otherwise = pick (eqb b.number x.number) (SaysOnly Yes) (SaysOnly (NoBecause PlaceTaken))

-- "A request to remove takes out exactly the back-pointer …, and says yes; else no."
abbrev pub drop_verdict : List Backpointer → Verdict
drop_verdict [] = SaysOnly No
drop_verdict (b ∷ bs) = DropsIt

abbrev pub to_add : Kind → List Backpointer → ℕ → Message → Verdict
to_add k bs s x =
    place_verdict x (keep (in_its_place s x) bs) (add_verdict k (keep (of_object x.object) bs) (leb max_backpointers (length bs)))

abbrev pub verdict_of : Kind → List Backpointer → ℕ → Message → Verdict
verdict_of Link bs s x = to_add Link bs s x
verdict_of Create bs s x = to_add Create bs s x
verdict_of Unlink bs s x = drop_verdict (keep (is_exactly s x) bs)

unfoldable pub verdict : Partition → ℕ → Message → Verdict
verdict t s x = verdict_of x.kind t.backpointers s x

abbrev pub answer_to : Message → Body → Message
answer_to x b =
    record { body = b; kind = x.kind; directory = x.directory; name = x.name; partition = x.partition; object = x.object; number = x.number }

-- "The answer is queued back."
unfoldable pub carry_out : Model → ℕ → ℕ → Message → Verdict → Model
carry_out m s r x (SaysOnly b) = send m r s (answer_to x b)
carry_out m s r x AddsIt = send (add_backpointer m r (backpointer_of s x)) r s (answer_to x Yes)
carry_out m s r x DropsIt = send (drop_backpointer m r (is_exactly s x)) r s (answer_to x Yes)

-- ---- an answer, at the record's partition

-- "A delivered answer sets the record to held, refused or cleared (cleared on either answer)." In tables in order no answer is
-- a request, and no link or create is answered a no without its reason.
abbrev pub stage_after : Kind → Body → Stage
stage_after Unlink b = Cleared
stage_after Link Request = Ready
stage_after Link Yes = Held
stage_after Link No = Ready
stage_after Link (NoBecause why) = Refused why
stage_after Create Request = Ready
stage_after Create Yes = Held
stage_after Create No = Ready
stage_after Create (NoBecause why) = Refused why

abbrev pub land : Model → ℕ → Message → Model
land m r x = set_stage m r x.number (stage_after x.kind x.body)

-- ---- the event: partition r receives the oldest message from s

-- m is without the message already
abbrev pub receive : Body → Model → ℕ → ℕ → Message → Model
receive Request m s r x = carry_out m s r x (verdict (partition m r) s x)
receive Yes m s r x = land m r x
receive No m s r x = land m r x
receive (NoBecause why) m s r x = land m r x

abbrev pub deliver_oldest : Model → ℕ → ℕ → List Message → Outcome
deliver_oldest m s r [] = refuse QueueEmpty m
deliver_oldest m s r (x ∷ rest) = accept x.number None (receive x.body (set_queue m s r rest) s r x)

unfoldable pub deliver : Model → ℕ → ℕ → Outcome
deliver m s r =
    check (is_partition m s && is_partition m r) OutOfRange m
    (check (partition m r).up Down m
    (deliver_oldest m s r (queue m s r)))
