-- The elements of the tables and of the answers: their enums' numbers in document 01, and tests of them.
use Rattle.std.specs.Prelude.{Bool, true, false, not, ℕ, eqb}
pub use Rattle.names.specs.declared.Name.{Name}
pub use Rattle.protocol.specs.declared.Kind.{Kind}
pub use Rattle.protocol.specs.declared.Kind.TheVariants.{Link, Create, Unlink}
pub use Rattle.protocol.specs.declared.Reason.{Reason}
pub use Rattle.protocol.specs.declared.Reason.TheVariants.{PlaceTaken, ObjectIdle, ObjectInUse, BackpointersFull}
pub use Rattle.protocol.specs.declared.Stage.{Stage}
pub use Rattle.protocol.specs.declared.Stage.TheVariants.{Ready, Sent, Held, Refused, Cleared}
pub use Rattle.protocol.specs.declared.Body.{Body}
pub use Rattle.protocol.specs.declared.Body.TheVariants.{Request, Yes, No, NoBecause}
pub use Rattle.protocol.specs.declared.Entry.{Entry}
pub use Rattle.protocol.specs.declared.Backpointer.{Backpointer}
pub use Rattle.protocol.specs.declared.Record.{Record}
pub use Rattle.protocol.specs.declared.Message.{Message}
pub use Rattle.protocol.specs.declared.Reply.{Reply}
pub use Rattle.protocol.specs.declared.Reply.TheVariants.{None, Done, NameTaken, Because}
pub use Rattle.protocol.specs.declared.Refusal.{Refusal}
pub use Rattle.protocol.specs.declared.Refusal.TheVariants.{Accepted, OutOfRange, BadName, CutFromItself, Down, IsUp, NameExists, NameAbsent, RecordOpen, LogFull, EntriesFull, NumbersSpent, NoRecord, RecordSent, TowardsDown, QueueEmpty, OutOfOrder, EndsEarly, MarkNotAllowed, FieldOutOfRange, CountWrong, BytesAfterClose, RoomTooShort, NotUnderstood}
pub use Rattle.protocol.specs.declared.Next.{Next}
pub use Rattle.protocol.specs.declared.Next.TheVariants.{Closes, Sends, Enters, Turns, TakesOut, Stays}
pub use Rattle.protocol.specs.declared.Verdict.{Verdict}
pub use Rattle.protocol.specs.declared.Verdict.TheVariants.{SaysOnly, AddsIt, DropsIt}
pub use Rattle.protocol.specs.declared.Answer.{Answer}
pub use Rattle.protocol.specs.declared.Tally.{Tally}

-- the document's number of every case of an enum

-- 'The picture': "kind 1 (link 1, create 2, unlink 3)"
abbrev pub kind_number : Kind → ℕ
kind_number Link = 1
kind_number Create = 2
kind_number Unlink = 3

-- "refused carries its reason, 3 to 6"
abbrev pub reason_number : Reason → ℕ
reason_number PlaceTaken = 3
reason_number ObjectIdle = 4
reason_number ObjectInUse = 5
reason_number BackpointersFull = 6

-- "the reply (0 for none)"
abbrev pub reply_number : Reply → ℕ
reply_number None = 0
reply_number Done = 1
reply_number NameTaken = 2
reply_number (Because why) = reason_number why

-- the table of 'Numbers returned'
abbrev pub refusal_number : Refusal → ℕ
refusal_number Accepted = 0
refusal_number OutOfRange = 1
refusal_number BadName = 2
refusal_number CutFromItself = 3
refusal_number Down = 4
refusal_number IsUp = 5
refusal_number NameExists = 6
refusal_number NameAbsent = 7
refusal_number RecordOpen = 8
refusal_number LogFull = 9
refusal_number EntriesFull = 10
refusal_number NumbersSpent = 11
refusal_number NoRecord = 12
refusal_number RecordSent = 13
refusal_number TowardsDown = 14
refusal_number QueueEmpty = 15
refusal_number OutOfOrder = 16
refusal_number EndsEarly = 17
refusal_number MarkNotAllowed = 18
refusal_number FieldOutOfRange = 19
refusal_number CountWrong = 20
refusal_number BytesAfterClose = 21
refusal_number RoomTooShort = 22
refusal_number NotUnderstood = 23

abbrev pub same_kind : Kind → Kind → Bool
same_kind k l = eqb (kind_number k) (kind_number l)

-- link and create ask for a back-pointer to be added, unlink for one to be removed
abbrev pub adds : Kind → Bool
adds Link = true
adds Create = true
adds Unlink = false

abbrev pub is_ready : Stage → Bool
is_ready Ready = true
is_ready Sent = false
is_ready Held = false
is_ready (Refused why) = false
is_ready Cleared = false

abbrev pub is_sent : Stage → Bool
is_sent Ready = false
is_sent Sent = true
is_sent Held = false
is_sent (Refused why) = false
is_sent Cleared = false

abbrev pub is_request : Body → Bool
is_request Request = true
is_request Yes = false
is_request No = false
is_request (NoBecause why) = false

-- "ready, sent, held or refused for link and create; ready, sent or cleared for unlink"
abbrev pub stage_fits : Kind → Stage → Bool
stage_fits k Ready = true
stage_fits k Sent = true
stage_fits k Held = adds k
stage_fits k (Refused why) = adds k
stage_fits k Cleared = not (adds k)

-- "a no to an add has a reason 3 to 6", a no to a removal has none
abbrev pub body_fits : Kind → Body → Bool
body_fits k Request = true
body_fits k Yes = true
body_fits k No = not (adds k)
body_fits k (NoBecause why) = adds k

-- the replies that a tally counts: 1, and 2 to 6
abbrev pub is_one : Reply → Bool
is_one None = false
is_one Done = true
is_one NameTaken = false
is_one (Because why) = false

abbrev pub is_other : Reply → Bool
is_other None = false
is_other Done = false
is_other NameTaken = true
is_other (Because why) = true

abbrev pub is_accepted : Refusal → Bool
is_accepted r = eqb (refusal_number r) 0
