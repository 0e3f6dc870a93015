-- Every event on whole tables accepts, or refuses with the tables as they were and not beca
use mathlib.Core.Bool.{Bool, and-false, false, not, true}
use mathlib.Core.List.{List, [], ◌∷◌, map}
use mathlib.Core.Path.{◌∙◌, ◌≡◌, ap, refl, subst}
use Prim.Native.Nat.{ℕ}
use lib.Dec.{eqb}
use borrow.Author.Tests.{eqb-true}
use Rattle.lists.specs.Lists.{keep, map_if, without}
use Rattle.protocol.specs.Advance.{advance, advance_found, next, next_of, next_to_add, next_to_remove, perform}
use Rattle.protocol.specs.Answers.{Outcome, accept, accepted, check, refuse}
use Rattle.protocol.specs.Ask.{ask, ask_tables, unlink, unlink_found}
use Rattle.protocol.specs.Deliver.{deliver, deliver_oldest}
use Rattle.protocol.specs.Demands.{still_adds}
use Rattle.protocol.specs.Elements.{BadName, Cleared, Closes, Create, CutFromItself, Down, Enters, EntriesFull, Entry, Held, IsUp, Kind, Link, LogFull, Message, Name, NameAbsent, NameExists, NameTaken, Next, NoRecord, NumbersSpent, OutOfRange, QueueEmpty, Ready, Record, RecordOpen, RecordSent, Refusal, Refused, Reply, Sends, Sent, Stage, Stays, TakesOut, TowardsDown, Turns, Unlink, adds, is_accepted, is_other, refusal_number, stage_fits}
use Rattle.protocol.specs.Events.{advancing, crashing, creating, cutting, delivering, Event, linking, opening, recovering, unlinking, bare, tests}
use Rattle.protocol.specs.Faults.{crash, cut, open_tables, recover}
use Rattle.protocol.specs.Tables.{Model, change_records, close_record, partition, queue, record_bears, stands_under, turn_record, turned}
use Rattle.lists.proofs.Keep.{keep-cons-other, keep-map_if-same, keep-without-same, kept}
use Rattle.lists.proofs.Members.{keep-sub, seen-mem}
use Rattle.lists.proofs.Tests.{and_left, no_true}
use Rattle.protocol.proofs.Look.{part_same, up_in}
use Rattle.protocol.proofs.Shows.{record-fits}
use Rattle.protocol.proofs.Whole.{Whole}

abbrev pub is_out_of_order : Refusal → Bool
is_out_of_order r = eqb (refusal_number r) 16

-- an outcome on the tables m; Q is said of the reply and the tables of an acceptance
pub data Fair (m : Model) (Q : Reply → Model → Type 0) : Outcome → Type 0 where
  accepts : (n : ℕ) (r : Reply) (m' : Model) → Q r m' → Fair m Q (accept n r m')
  refuses : (why : Refusal) → is_out_of_order why ≡ false → is_accepted why ≡ false → Fair m Q (refuse why m)

pub fair-kept : {m : Model} {Q : Reply → Model → Type 0} {o : Outcome} → Fair m Q o → accepted o ≡ false → o ≡ refuse o.answer.refusal m
fair-kept (accepts n r m' x) e = no_true refl e
fair-kept (refuses why s t) e = refl

pub fair-order : {m : Model} {Q : Reply → Model → Type 0} {o : Outcome} → Fair m Q o → is_out_of_order o.answer.refusal ≡ false
fair-order (accepts n r m' x) = refl
fair-order (refuses why s t) = s

pub fair-reply : {m : Model} {Q : Reply → Model → Type 0} {o : Outcome} → Fair m Q o → is_other o.answer.reply ≡ true
    → Q o.answer.reply o.model
fair-reply (accepts n r m' x) e = x
fair-reply (refuses why s t) e = no_true e refl

-- no failure is told
abbrev pub Quiet : Reply → Model → Type 0
Quiet r m' = is_other r ≡ false

-- where a failure is told, no link or create record of p bears the number n any more
abbrev pub Closed : ℕ → ℕ → Reply → Model → Type 0
Closed p n r m' = is_other r ≡ true → keep (still_adds n) (partition m' p).records ≡ []

still-bears : (n : ℕ) (l : List Record) → keep (still_adds n) l ≡ keep (still_adds n) (keep (record_bears n) l)
still-bears n l = keep-sub (still_adds n) (record_bears n) (λ r e. and_left _ _ e) l

closed_none : (n : ℕ) (l : List Record) → keep (still_adds n) (without (record_bears n) l) ≡ []
closed_none n l = still-bears n (without (record_bears n) l) ∙ rw (keep-without-same (record_bears n) l) (unfold keep in refl)

turned_none : (n : ℕ) (l : List Record) → keep (still_adds n) (map turned l) ≡ []
turned_none n [] = unfold keep in refl
turned_none n (r ∷ l) = keep-cons-other (still_adds n) (map turned l) (turned r) (and-false (eqb r.number n)) ∙ turned_none n l

turn-none : (n : ℕ) (l : List Record) → keep (still_adds n) (map_if (record_bears n) turned l) ≡ []
turn-none n l =
    still-bears n (map_if (record_bears n) turned l) ∙ rw (keep-map_if-same (record_bears n) turned (λ r. refl) l)
    (turned_none n (keep (record_bears n) l))

module _ (m : Model) where
  fair-check : {Q : Reply → Model → Type 0} (t : Bool) (why : Refusal) (o : Outcome) → is_out_of_order why ≡ false → is_accepted why ≡ false
      → (t ≡ true → Fair m Q o) → Fair m Q (check t why m o)
  unfolding check
  fair-check true why o s a f = f refl
  fair-check false why o s a f = refuses why s a

  ask-fair : (k : Kind) (p d : ℕ) (s : Name) (q o : ℕ) → Fair m Quiet (ask k m p d s q o)
  unfolding ask ask_tables
  ask-fair k p d s q o =
      fair-check _ OutOfRange _ refl refl λ e₁. fair-check _ BadName _ refl refl λ e₂. fair-check _ Down _ refl refl λ e₃.
      fair-check _ NameExists _ refl refl λ e₄. fair-check _ NumbersSpent _ refl refl λ e₅. fair-check _ LogFull _ refl refl λ e₆.
      fair-check _ EntriesFull _ refl refl λ e₇.
      accepts _ _ _ refl

  unlink-found-fair : (p : ℕ) (es : List Entry) → Fair m Quiet (unlink_found m p es)
  unlink-found-fair p [] = refuses NameAbsent refl refl
  unlink-found-fair p (e ∷ es) = fair-check _ RecordOpen _ refl refl λ e₁. fair-check _ LogFull _ refl refl λ e₂. accepts _ _ _ refl

  unlink-fair : (p d : ℕ) (s : Name) → Fair m Quiet (unlink m p d s)
  unfolding unlink
  unlink-fair p d s =
      fair-check _ OutOfRange _ refl refl λ e₁. fair-check _ BadName _ refl refl λ e₂. fair-check _ Down _ refl refl λ e₃.
      unlink-found-fair p (keep (stands_under d s) (partition m p).entries)

  -- a stage that fits its kind stays only when it is sent
  abbrev OnlySent : Next → Type 0
  OnlySent x = (why : Refusal) → x ≡ Stays why → why ≡ RecordSent

  perform-fair : (p : ℕ) (r : Record) (x : Next) → (partition m p).up ≡ true → OnlySent x → Fair m (Closed p r.number) (perform m p r x)
  unfolding perform change_records
  perform-fair p r (Closes reply) u h = accepts r.number reply (close_record m p r.number) λ e. rw (part_same m p _ (up_in m p u))
      (closed_none r.number (partition m p).records)
  perform-fair p r Sends u h = fair-check _ TowardsDown _ refl refl λ e. accepts _ _ _ λ f. no_true f refl
  perform-fair p r Enters u h = accepts _ _ _ λ f. no_true f refl
  perform-fair p r Turns u h = accepts r.number NameTaken (turn_record m p r.number) λ e. rw (part_same m p _ (up_in m p u))
      (turn-none r.number (partition m p).records)
  perform-fair p r TakesOut u h = accepts _ _ _ λ f. no_true f refl
  perform-fair p r (Stays why) u h = rw (h why refl) (refuses RecordSent refl refl)

  add-next : (k : Kind) → adds k ≡ true → (g : Stage) → stage_fits k g ≡ true → (entered taken : Bool) → OnlySent (next_to_add g entered taken)
  add-next k a Ready f true taken why e = cc
  add-next k a Ready f false taken why e = cc
  add-next k a Sent f entered taken why e = cc
  add-next k a Held f true taken why e = cc
  add-next k a Held f false true why e = cc
  add-next k a Held f false false why e = cc
  add-next k a (Refused x) f true taken why e = cc
  add-next k a (Refused x) f false taken why e = cc
  add-next k a Cleared f entered taken why e = no_true f (ap not a)

  remove-next : (g : Stage) → stage_fits Unlink g ≡ true → (entered : Bool) → OnlySent (next_to_remove g entered)
  remove-next Ready f true why e = cc
  remove-next Ready f false why e = cc
  remove-next Sent f entered why e = cc
  remove-next Held f entered why e = no_true f refl
  remove-next (Refused x) f entered why e = no_true f refl
  remove-next Cleared f entered why e = cc

  next-sent : (k : Kind) (g : Stage) → stage_fits k g ≡ true → (entered taken : Bool) → OnlySent (next_of k g entered taken)
  next-sent Link g f entered taken = add-next Link refl g f entered taken
  next-sent Create g f entered taken = add-next Create refl g f entered taken
  next-sent Unlink g f entered taken = remove-next g f entered

  advance-found-fair : Whole m → (p n : ℕ) → (partition m p).up ≡ true → (rs : List Record) → keep (record_bears n) (partition m p).records ≡ rs
      → Fair m (Closed p n) (advance_found m p rs)
  unfolding next
  advance-found-fair w p n u [] e = refuses NoRecord refl refl
  advance-found-fair w p n u (r ∷ rs) e =
      subst (λ (i : ℕ). Fair m (Closed p i) (perform m p r (next (partition m p) r)))
      (eqb-true _ _ (kept (record_bears n) (partition m p).records r rs e))
      (perform-fair p r _ u (next-sent r.kind r.stage (record-fits m w p r (seen-mem (record_bears n) (partition m p).records rs r e)).1 _ _))

  advance-fair : Whole m → (p n : ℕ) → Fair m (Closed p n) (advance m p n)
  unfolding advance
  advance-fair w p n =
      fair-check _ OutOfRange _ refl refl λ e₁. fair-check _ Down _ refl refl λ e₂. advance-found-fair w p n e₂
      (keep (record_bears n) (partition m p).records) refl

  oldest-fair : (s r : ℕ) (l : List Message) → Fair m Quiet (deliver_oldest m s r l)
  oldest-fair s r [] = refuses QueueEmpty refl refl
  oldest-fair s r (x ∷ l) = accepts _ _ _ refl

  deliver-fair : (s r : ℕ) → Fair m Quiet (deliver m s r)
  unfolding deliver
  deliver-fair s r = fair-check _ OutOfRange _ refl refl λ e₁. fair-check _ Down _ refl refl λ e₂. oldest-fair s r (queue m s r)

  cut-fair : (a b : ℕ) → Fair m Quiet (cut m a b)
  unfolding cut
  cut-fair a b = fair-check _ OutOfRange _ refl refl λ e₁. fair-check _ CutFromItself _ refl refl λ e₂. fair-check _ Down _ refl refl λ e₃.
      accepts _ _ _ refl

  crash-fair : (p : ℕ) → Fair m Quiet (crash m p)
  unfolding crash
  crash-fair p = fair-check _ OutOfRange _ refl refl λ e₁. fair-check _ Down _ refl refl λ e₂. accepts _ _ _ refl

  recover-fair : (p : ℕ) → Fair m Quiet (recover m p)
  unfolding recover
  recover-fair p = fair-check _ OutOfRange _ refl refl λ e₁. fair-check _ IsUp _ refl refl λ e₂. accepts _ _ _ refl

  open-fair : (k : ℕ) → Fair m Quiet (open_tables m k)
  unfolding open_tables
  open-fair k = fair-check _ OutOfRange _ refl refl λ e. accepts _ _ _ refl

  -- what an acceptance of each event may say
  abbrev pub Says : Event → Reply → Model → Type 0
  Says (linking p d s q o) = Quiet
  Says (creating p d s q o) = Quiet
  Says (unlinking p d s) = Quiet
  Says (advancing p n) = Closed p n
  Says (delivering s r) = Quiet
  Says (cutting a b) = Quiet
  Says (crashing p) = Quiet
  Says (recovering p) = Quiet
  Says (opening k) = Quiet

  pub event-fair : (e : Event) → Whole m → Fair m (Says e) (bare e m)
  unfolding bare
  event-fair (linking p d s q o) w = ask-fair Link p d s q o
  event-fair (creating p d s q o) w = ask-fair Create p d s q o
  event-fair (unlinking p d s) w = unlink-fair p d s
  event-fair (advancing p n) w = advance-fair w p n
  event-fair (delivering s r) w = deliver-fair s r
  event-fair (cutting a b) w = cut-fair a b
  event-fair (crashing p) w = crash-fair p
  event-fair (recovering p) w = recover-fair p
  event-fair (opening k) w = open-fair k

  -- an open asks nothing of the tables
  pub untested-fair : (e : Event) → tests e ≡ false → Fair m (Says e) (bare e m)
  unfolding bare
  untested-fair (linking p d s q o) t = no_true refl t
  untested-fair (creating p d s q o) t = no_true refl t
  untested-fair (unlinking p d s) t = no_true refl t
  untested-fair (advancing p n) t = no_true refl t
  untested-fair (delivering s r) t = no_true refl t
  untested-fair (cutting a b) t = no_true refl t
  untested-fair (crashing p) t = no_true refl t
  untested-fair (recovering p) t = no_true refl t
  untested-fair (opening k) t = open-fair k
