-- The rehearsal as a whole (document 01, 'The rehearsal program'): what a command answers, and the text that answers a schedule's.
use Rattle.std.specs.Prelude.{Bool, false, true, List, [], ◌++◌, ◌∷◌, suc, ℕ, get_or, length}
use Rattle.lists.specs.Lists.{is_some, one, pick}
use Rattle.protocol.specs.Answers.{Outcome, accepted}
use Rattle.protocol.specs.Elements.{refusal_number, reply_number}
use Rattle.protocol.specs.declared.Answer.{Answer}
use Rattle.protocol.specs.declared.Refusal.TheVariants.{Accepted, NotUnderstood as LineNotUnderstood}
use Rattle.protocol.specs.Events.{advancing, crashing, creating, cutting, delivering, linking, opening, recovering, unlinking, apply}
use Rattle.protocol.specs.Settle.{Settled, settle, zero_tally}
use Rattle.protocol.specs.Tables.{Model, fresh, partition_count, queue, totals}
use Rattle.rehearsal.specs.Line.{Advance, Command, Crash, Create, Cut, Deliver, Link, NotUnderstood, Open, Recover, Settle, Square, Totals, Unlink, Verb, behind, command_of, up_to}
use Rattle.rehearsal.specs.Answers.{square_of}
use Rattle.rehearsal.specs.Text.{line_end, line_text}

-- ---- what a command answers, in the document's numbers

-- before the first accepted `P` there are no tables
pub data State : Type 0 where
  closed : State
  running : Model → State

pub record Response : Type 0 where
  pub numbers : List ℕ
  pub state : State

abbrev pub responding : List ℕ → State → Response
responding ns x = record { numbers = ns; state = x }

-- "refusal, number, reply"
abbrev pub answer_numbers : Answer → List ℕ
answer_numbers a = refusal_number a.refusal ∷ a.number ∷ reply_number a.reply ∷ []

-- 23
abbrev pub unread : State → Response
unread x = responding (refusal_number LineNotUnderstood ∷ 0 ∷ 0 ∷ []) x

abbrev pub happened : Outcome → Response
happened o = responding (answer_numbers o.answer) (running o.model)

-- "For `Z` the number is the steps and the reply 0."
abbrev pub has_settled : Settled → Response
has_settled x = responding (refusal_number x.refusal ∷ x.tally.steps ∷ 0 ∷ []) (running x.model)

-- "`S` gives line, 0, entries, back-pointers, records, messages over all."
abbrev pub total_numbers : Model → List ℕ
total_numbers m =
    refusal_number Accepted ∷ (totals m).entries ∷ (totals m).backpointers ∷ (totals m).records ∷ (totals m).messages ∷ []

-- "the queue lengths as a square, one row for each sender, count times count numbers, row after row"
abbrev pub square : Model → List ℕ
square m = square_of (partition_count m) (λ s r. length (queue m s r))

-- the number of the word at this place
abbrev pub argument : Command → ℕ → ℕ
argument c k = get_or c.numbers k 0

unfoldable pub respond_to : Verb → Command → Model → Response
respond_to Open c m = unread (running m)
respond_to Link c m = happened (apply (linking (argument c 0) (argument c 1) c.name (argument c 3) (argument c 4)) m)
respond_to Create c m = happened (apply (creating (argument c 0) (argument c 1) c.name (argument c 3) (argument c 4)) m)
respond_to Unlink c m = happened (apply (unlinking (argument c 0) (argument c 1) c.name) m)
respond_to Advance c m = happened (apply (advancing (argument c 0) (argument c 1)) m)
respond_to Deliver c m = happened (apply (delivering (argument c 0) (argument c 1)) m)
respond_to Cut c m = happened (apply (cutting (argument c 0) (argument c 1)) m)
respond_to Crash c m = happened (apply (crashing (argument c 0)) m)
respond_to Recover c m = happened (apply (recovering (argument c 0)) m)
respond_to Settle c m = has_settled (settle (argument c 0) zero_tally m)
respond_to Totals c m = responding (total_numbers m) (running m)
respond_to Square c m = responding (refusal_number Accepted ∷ square m) (running m)
respond_to NotUnderstood c m = unread (running m)

-- "First accepted line: `P count`; a second one, or any other before it, is 23."
abbrev pub opening_response : Outcome → Response
opening_response o = responding (answer_numbers o.answer) (pick (accepted o) (running o.model) closed)

abbrev pub is_open : Verb → Bool
is_open Open = true
is_open Link = false
is_open Create = false
is_open Unlink = false
is_open Advance = false
is_open Deliver = false
is_open Cut = false
is_open Crash = false
is_open Recover = false
is_open Settle = false
is_open Totals = false
is_open Square = false
is_open NotUnderstood = false

-- an open has no tables to test, and none to give back where it is refused
unfoldable pub respond : State → Command → Response
respond closed c = pick (is_open c.verb) (opening_response (apply (opening (argument c 0)) (fresh 0))) (unread closed)
respond (running m) c = respond_to c.verb c m

-- ---- text to text

-- "lines ended by LF (the last may lack it)": behind the last LF there is a line, unless there is nothing
unfoldable pub lines_from : List ℕ → List (List ℕ) → List (List ℕ)
lines_from l [] = one (is_some l) l
lines_from l (k ∷ ks) = l ∷ lines_from k ks

abbrev pub lines_of : List ℕ → List (List ℕ)
lines_of s = lines_from (up_to line_end s) (behind line_end s)

-- the answers to lines, of which the first has the number i
unfoldable pub answered_from : ℕ → State → List (List ℕ) → List ℕ
answered_from i x [] = []
answered_from i x (l ∷ ls) =
    line_text (i ∷ (respond x (command_of l)).numbers) ++ answered_from (suc i) (respond x (command_of l)).state ls

unfoldable pub rehearsal : List ℕ → List ℕ
rehearsal input = answered_from 1 closed (lines_of input)
