-- Advance: the next step of one open record, and what it does (document 01, 'The nine events', 4).
use Rattle.std.specs.Prelude.{Bool, false, true, List, [], ◌∷◌, ℕ}
use Rattle.lists.specs.Lists.{is_some, keep}
use Rattle.protocol.specs.Answers.{Outcome, accept, check, refuse}
use Rattle.protocol.specs.Elements.{Because, Cleared, Closes, Create, Done, Down, Enters, Held, Kind, Link, NameTaken, Next, NoRecord, None, OutOfOrder, OutOfRange, Ready, Record, RecordSent, Refused, Request, Sends, Sent, Stage, Stays, TakesOut, TowardsDown, Turns, Unlink}
use Rattle.protocol.specs.Tables.{Model, Partition, close_record, enter_name, entry_bears, entry_of, is_partition, message_of, partition, record_bears, send, set_stage, stands_under, take_out_name, turn_record}

-- Of a link or create, by its stage, whether an entry bears its number and whether its name is taken: "if an entry bears
-- the number, close the record; else ready sends the request …; held enters the name … if nothing stands under it in that
-- directory, else turns the record …; refused closes it with its reason as reply". A stage of the other kinds is out of order.
abbrev pub next_to_add : Stage → Bool → Bool → Next
next_to_add Ready true taken = Closes None
next_to_add Held true taken = Closes None
next_to_add (Refused why) true taken = Closes None
next_to_add Ready false taken = Sends
next_to_add Held false false = Enters
next_to_add Held false true = Turns
next_to_add (Refused why) false taken = Closes (Because why)
next_to_add Sent entered taken = Stays RecordSent
next_to_add Cleared entered taken = Stays OutOfOrder

-- Of an unlink: "ready takes the entry out … if one bears the number, else sends the request …; cleared closes it"
abbrev pub next_to_remove : Stage → Bool → Next
next_to_remove Ready true = TakesOut
next_to_remove Ready false = Sends
next_to_remove Cleared entered = Closes None
next_to_remove Sent entered = Stays RecordSent
next_to_remove Held entered = Stays OutOfOrder
next_to_remove (Refused why) entered = Stays OutOfOrder

abbrev pub next_of : Kind → Stage → Bool → Bool → Next
next_of Link g entered taken = next_to_add g entered taken
next_of Create g entered taken = next_to_add g entered taken
next_of Unlink g entered taken = next_to_remove g entered

unfoldable pub next : Partition → Record → Next
next x r =
    next_of r.kind r.stage (is_some (keep (entry_bears r.number) x.entries))
    (is_some (keep (stands_under r.directory r.name) x.entries))

-- the step of partition p's record r
unfoldable pub perform : Model → ℕ → Record → Next → Outcome
perform m p r (Closes reply) = accept r.number reply (close_record m p r.number)
perform m p r Sends =
    check (partition m r.partition).up TowardsDown m
    (accept r.number None (send (set_stage m p r.number Sent) p r.partition (message_of Request r)))
perform m p r Enters = accept r.number Done (enter_name m p (entry_of r))
perform m p r Turns = accept r.number NameTaken (turn_record m p r.number)
perform m p r TakesOut = accept r.number Done (take_out_name m p r.number)
perform m p r (Stays why) = refuse why m

abbrev pub advance_found : Model → ℕ → List Record → Outcome
advance_found m p [] = refuse NoRecord m
advance_found m p (r ∷ rs) = perform m p r (next (partition m p) r)

unfoldable pub advance : Model → ℕ → ℕ → Outcome
advance m p n =
    check (is_partition m p) OutOfRange m
    (check (partition m p).up Down m
    (advance_found m p (keep (record_bears n) (partition m p).records)))
