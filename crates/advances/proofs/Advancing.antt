-- The steps of an advance on stored tables, in plain variables.
use mathlib.Core.Bool.{Bool, false, true}
use mathlib.Core.List.{List, Memᴰ, [], ◌++◌, ◌∷◌}
use mathlib.Core.Path.{◌∙◌, ◌≡◌, ap, refl, subst, sym}
use Prim.Native.Nat.{◌*◌, ◌+◌, ◌<◌, ◌≤◌, ℕ}
use native.Mathlib.Omega.{arith}
use lib.ListN.{get_or, length, set}
use lib.Seq.{get_or-take, length-take-le}
use Rattle.lists.specs.Lists.{first_at, is_some, keep, map_if, remove_at, without}
use Rattle.protocol.specs.Advance.{next, next_of, next_to_add, next_to_remove, perform}
use Rattle.protocol.specs.Answers.{accept, refuse}
use Rattle.protocol.specs.Bounds.{max_entries, max_partitions, max_records}
use Rattle.protocol.specs.Elements.{adds, is_accepted, is_sent}
use Rattle.tables.specs.Slots.{no_entry, no_record}
use Rattle.tables.specs.View.{Sized, Stored, entries_of, no_queue, pack, pack_entries, pack_records, partition_at, queue_at, records_of, view, view_partition, Entries, Records}
use Rattle.answers.specs.Called.{Ready, refused_with, stored}
use Rattle.answers.specs.declared.Answered.{Answered}
use Rattle.advances.specs.Opened.{OpenAt, SendsTo}
use Rattle.lists.proofs.Finds.{found-removed, none_kept}
use Rattle.lists.proofs.Keep.{is_some-false}
use Rattle.lists.proofs.Members.{mem-keep, only_one, place-mem}
use Rattle.lists.proofs.Places.{map_if-at, without_at}
use Rattle.lists.proofs.Tests.{by_test, eqb_same, no_true}
use Rattle.protocol.proofs.Room.{entry-room, one_entry, one-record, owner-there, request-room}
use Rattle.tables.proofs.Stored.{entries-stored, records-stored}
use Rattle.answers.proofs.Applied.{entries-change, exchanged-applies, queue-few, records-change, records-exchange}
use Rattle.answers.specs.declared.changes.Change.{Change}
use Rattle.answers.specs.Change.{Applies, applied, changes_with, exchanges_with}
use Rattle.lists.proofs.Backs.{set_back}
use Rattle.answers.proofs.Ways.{passes, read_count, read-entries, read-four, read-records, read-sized, read_up, read_view, ready-stored, ready-view, refuses}
use Rattle.protocol.specs.Tables.{Model, entry_bears, entry_of, in_stage, message_of, partition, record_bears, send, set_stage, turned, Partition as Part}
use Rattle.protocol.specs.declared.Stage.TheVariants.{Cleared, Held, Ready as ReadyStage, Refused, Sent}
use Rattle.protocol.specs.declared.Body.TheVariants.{Request}
use Rattle.protocol.specs.declared.Entry.{Entry}
use Rattle.protocol.specs.declared.Kind.{Kind}
use Rattle.protocol.specs.declared.Kind.TheVariants.{Create, Link, Unlink}
use Rattle.protocol.specs.declared.Message.{Message}
use Rattle.protocol.specs.declared.Next.{Next}
use Rattle.protocol.specs.declared.Next.TheVariants.{Closes, Enters, Sends, Stays, TakesOut, Turns}
use Rattle.protocol.specs.declared.Record.{Record}
use Rattle.protocol.specs.declared.Refusal.{Refusal}
use Rattle.protocol.specs.declared.Refusal.TheVariants.{TowardsDown}
use Rattle.protocol.specs.declared.Reply.{Reply}
use Rattle.protocol.specs.declared.Reply.TheVariants.{Done, NameTaken, None as NoReply}
use Rattle.std.specs.Prelude.{None, Option, Some}
use Rattle.protocol.specs.declared.Stage.{Stage}
use Rattle.tables.specs.declared.Partition.{Partition}
use Rattle.tables.specs.declared.Tables.{Tables}

-- which records enter a name, and which take one out
add-entering : (g : Stage) (e t : Bool) → Enters ≡ next_to_add g e t → e ≡ false
add-entering ReadyStage true t h = cc
add-entering ReadyStage false t h = refl
add-entering Sent e t h = cc
add-entering Held true t h = cc
add-entering Held false t h = refl
add-entering (Refused x) true t h = cc
add-entering (Refused x) false t h = refl
add-entering Cleared e t h = cc

remove-entering : (g : Stage) (e : Bool) → Enters ≡ next_to_remove g e → ⊥
remove-entering ReadyStage true h = absurd (let z : ◌≡◌ {A = ℕ} 0 1 = cc in omega arith)
remove-entering ReadyStage false h = absurd (let z : ◌≡◌ {A = ℕ} 0 1 = cc in omega arith)
remove-entering Sent e h = absurd (let z : ◌≡◌ {A = ℕ} 0 1 = cc in omega arith)
remove-entering Held e h = absurd (let z : ◌≡◌ {A = ℕ} 0 1 = cc in omega arith)
remove-entering (Refused x) e h = absurd (let z : ◌≡◌ {A = ℕ} 0 1 = cc in omega arith)
remove-entering Cleared e h = absurd (let z : ◌≡◌ {A = ℕ} 0 1 = cc in omega arith)

entering : (k : Kind) (g : Stage) (e t : Bool) → Enters ≡ next_of k g e t → (adds k ≡ true) × (e ≡ false)
entering Link g e t h = (refl, add-entering g e t h)
entering Create g e t h = (refl, add-entering g e t h)
entering Unlink g e t h = absurd (remove-entering g e h)

add-taking : (g : Stage) (e t : Bool) → TakesOut ≡ next_to_add g e t → e ≡ true
add-taking ReadyStage true t h = refl
add-taking ReadyStage false t h = cc
add-taking Sent e t h = cc
add-taking Held true t h = refl
add-taking Held false true h = cc
add-taking Held false false h = cc
add-taking (Refused x) true t h = refl
add-taking (Refused x) false t h = cc
add-taking Cleared e t h = cc

remove-taking : (g : Stage) (e : Bool) → TakesOut ≡ next_to_remove g e → e ≡ true
remove-taking ReadyStage true h = refl
remove-taking ReadyStage false h = cc
remove-taking Sent e h = cc
remove-taking Held e h = cc
remove-taking (Refused x) e h = cc
remove-taking Cleared e h = cc

taking : (k : Kind) (g : Stage) (e t : Bool) → TakesOut ≡ next_of k g e t → e ≡ true
taking Link g e t h = add-taking g e t h
taking Create g e t h = add-taking g e t h
taking Unlink g e t h = remove-taking g e h

sending-add : (g : Stage) (e t : Bool) → Sends ≡ next_to_add g e t → is_sent g ≡ false
sending-add ReadyStage e t h = refl
sending-add Sent e t h = cc
sending-add Held e t h = refl
sending-add (Refused x) e t h = refl
sending-add Cleared e t h = refl

sending-remove : (g : Stage) (e : Bool) → Sends ≡ next_to_remove g e → is_sent g ≡ false
sending-remove ReadyStage e h = refl
sending-remove Sent e h = cc
sending-remove Held e h = refl
sending-remove (Refused x) e h = refl
sending-remove Cleared e h = refl

sending-rests : (k : Kind) (g : Stage) (e t : Bool) → Sends ≡ next_of k g e t → is_sent g ≡ false
sending-rests Link g e t h = sending-add g e t h
sending-rests Create g e t h = sending-add g e t h
sending-rests Unlink g e t h = sending-remove g e h

-- the record c is open at place i of partition p, and x was read there
module _ (t : Tables) (z : Sized t) (r : Ready t) (p i : ℕ) (c : Record) (o : OpenAt t p i c) (x : Partition) (e : x ≡ partition_at t p) where
  abbrev m : Model
  m = view t

  abbrev ls : List Record
  ls = records_of x.records

  seen : partition m p ≡ view_partition x
  seen = read_view t p z r o.partition x e

  pub step-records : pack_records (records_of x.records) ≡ x.records
  step-records = records-stored t p (ready-stored t p z r o.partition) x e

  pub step-entries : pack_entries (entries_of x.entries) ≡ x.entries
  step-entries = entries-stored t p (ready-stored t p z r o.partition) x e

  pub step-place : i < x.records.count
  step-place = rw e o.place

  pub step-most : x.records.count ≤ max_records
  step-most = read-records t p z r o.partition x e

  pub step-entries-most : x.entries.count ≤ max_entries
  step-entries-most = read-entries t p z r o.partition x e

  long : length ls ≡ x.records.count
  long = sym (ap (λ (y : Part). length y.records) seen) ∙ read_count t p z r o.partition x e

  here : get_or ls i no_record ≡ c
  here = get_or-take x.records.count x.records.items i no_record step-place ∙ ap (λ (y : Partition). get_or y.records.items i no_record) e ∙ sym o.read

  inside : i < length ls
  inside = rw long step-place

  bears : record_bears c.number (get_or ls i no_record) ≡ true
  bears = rw here (eqb_same c.number)

  sole : length (keep (record_bears c.number) ls) ≤ 1
  sole = subst (λ (y : Part). length (keep (record_bears c.number) y.records) ≤ 1) seen (one-record m r.order p c.number)

  found : keep (record_bears c.number) (partition m p).records ≡ c ∷ []
  found =
      ap (λ (y : Part). keep (record_bears c.number) y.records) seen
      ∙ only_one _ c (mem-keep (record_bears c.number) ls c (subst (λ (y : Record). Memᴰ y ls) here (place-mem ls i no_record inside)) (eqb_same c.number)) sole

  -- the place is removed, or changed
  gone : remove_at i ls ≡ without (record_bears c.number) (partition m p).records
  gone = without_at (record_bears c.number) no_record ls i inside bears sole ∙ ap (λ (y : Part). without (record_bears c.number) y.records) (sym seen)

  changed : (u : Record → Record) → set ls i (u c) ≡ map_if (record_bears c.number) u (partition m p).records
  changed u =
      ap (λ (y : Record). set ls i (u y)) (sym here) ∙ map_if-at (record_bears c.number) no_record u ls i inside bears sole
      ∙ ap (λ (y : Part). map_if (record_bears c.number) u y.records) (sym seen)

  stored_here : Stored t p
  stored_here = ready-stored t p z r o.partition

  abbrev with_records_of : Records → Partition
  with_records_of l = record { up = x.up; last = x.last; entries = x.entries; backpointers = x.backpointers; records = l }

  abbrev with_entries_of : Entries → Partition
  with_entries_of l = record { up = x.up; last = x.last; entries = l; backpointers = x.backpointers; records = x.records }

  pub closed : (reply : Reply) (l : Records) (a : Change) → l ≡ pack_records (remove_at i (records_of x.records)) → a ≡ changes_with p (with_records_of l) c.number reply
      → applied t a ≡ stored t (perform m p c (Closes reply))
  unfolding perform
  closed reply l a hl ha = records-change t p stored_here x e (without (record_bears c.number)) l (hl ∙ ap pack_records gone) c.number reply a ha

  pub turned_round : (c' : Record) (l : Records) (a : Change) → c' ≡ turned c → l ≡ pack_records (set (records_of x.records) i c')
      → a ≡ changes_with p (with_records_of l) c.number NameTaken → applied t a ≡ stored t (perform m p c Turns)
  unfolding perform
  turned_round c' l a hc hl ha =
      records-change t p stored_here x e (map_if (record_bears c.number) turned) l (hl ∙ ap (λ (y : Record). pack_records (set ls i y)) hc ∙ ap pack_records (changed turned)) c.number NameTaken a ha

  pub enter-room : Enters ≡ next (partition m p) c → x.entries.count < max_entries
  unfolding next
  enter-room h =
      let y = entering c.kind c.stage _ _ h in
      let n : length (partition m p).entries < max_entries = entry-room m r.order p c.number c [] found y.0 (is_some-false _ y.1) in
      let s = (read-sized t p z r o.partition x e).entries in
      let k : length (partition m p).entries ≡ x.entries.count = rw seen (length-take-le x.entries.count x.entries.items (omega (arith, step-entries-most))) in
      omega arith

  pub entered : (y : Entry) (l : Entries) (a : Change) → y ≡ entry_of c → l ≡ pack_entries (entries_of x.entries ++ y ∷ []) → a ≡ changes_with p (with_entries_of l) c.number Done
      → applied t a ≡ stored t (perform m p c Enters)
  unfolding perform
  entered y l a hy hl ha =
      entries-change t p stored_here x e (λ k. k ++ entry_of c ∷ []) l
      (hl ∙ ap (λ (q : Entry). pack_entries (entries_of x.entries ++ q ∷ [])) hy ∙ ap (λ (q : Part). pack_entries (q.entries ++ entry_of c ∷ [])) (sym seen))
      c.number Done a ha

  -- the entry is looked for by its number
  module _ (f : Option ℕ) (g : f ≡ first_at (entry_bears c.number) (entries_of x.entries)) (n : TakesOut ≡ next (partition m p) c) where
    pub out-missing : (a : Answered) → f ≡ None → a ≡ stored t (perform m p c TakesOut)
    unfolding next
    out-missing a q =
        let k : keep (entry_bears c.number) (partition m p).entries ≡ [] = rw seen (none_kept (entry_bears c.number) 0 (entries_of x.entries) (sym g ∙ q)) in
        no_true (taking c.kind c.stage _ _ n) (ap is_some k)

    pub out-found : (j : ℕ) (l : Entries) (a : Change) → f ≡ Some j → l ≡ pack_entries (remove_at j (entries_of x.entries)) → a ≡ changes_with p (with_entries_of l) c.number Done
        → applied t a ≡ stored t (perform m p c TakesOut)
    unfolding perform
    out-found j l a q hl ha =
        let es : List Entry = entries_of x.entries in
        let u : length (keep (entry_bears c.number) es) ≤ 1 = subst (λ (q : Part). length (keep (entry_bears c.number) q.entries) ≤ 1) seen (one_entry m r.order p c.number) in
        let d : remove_at j es ≡ without (entry_bears c.number) (partition m p).entries =
        found-removed (entry_bears c.number) no_entry es j (sym g ∙ q) u ∙ ap (λ (q : Part). without (entry_bears c.number) q.entries) (sym seen)
        in
        entries-change t p stored_here x e (without (entry_bears c.number)) l (hl ∙ ap pack_entries d) c.number Done a ha

  -- the record's request goes to q
  module _ (q : ℕ) (s : SendsTo t p c q) where
    pub requested : (c' : Record) (l : Records) (g : Message) (a : Change) → c' ≡ in_stage Sent c → l ≡ pack_records (set (records_of x.records) i c') → g ≡ message_of Request c
        → a ≡ exchanges_with p q (with_records_of l) c.number false (Some g)
        → applied t a ≡ stored t (accept c.number NoReply (send (set_stage m p c.number Sent) p c.partition (message_of Request c)))
    requested c' l g a hc hl hg ha =
        records-exchange t p stored_here x e q (ready-stored t q z r s.there) false (Some g) c.number a (map_if (record_bears c.number) (in_stage Sent)) l
        (hl ∙ ap (λ (j : Record). pack_records (set ls i j)) hc ∙ ap pack_records (changed (in_stage Sent))) ha
        ∙ rw (hg, s.owner) refl

pub ruleset steps = (step-records, step-entries, step-place, step-most, step-entries-most, closed, turned_round, enter-room, entered, out-missing, out-found, requested)

-- ---- the record's request is sent to q

module _ (t : Tables) (z : Sized t) (r : Ready t) (p i : ℕ) (c : Record) (o : OpenAt t p i c) where
  sole-record : keep (record_bears c.number) (partition (view t) p).records ≡ c ∷ []
  sole-record = found t z r p i c o (partition_at t p) refl

  packed-here : t ≡ pack (view t)
  packed-here = sym (ready-stored t p z r o.partition).packed

  pub request-applies : (q : ℕ) → SendsTo t p c q → (y : Partition) (n : ℕ) (g : Message) (a : Change) → a ≡ exchanges_with p q y n false (Some g) → Applies t a
  request-applies q s y n g a ha =
      exchanged-applies t r p o.partition a q s.there y n false (Some g) (record { some = λ k. no_true k refl })
      (record {
        room =
            λ x k.
            rw (set_back t.queues (q * max_partitions + p) no_queue)
            (queue-few t z p q (ready-stored t p z r o.partition) (ready-stored t q z r s.there) (queue_at t (p * max_partitions + q)) refl s.room);
      })
      ha

  module _ (n : Sends ≡ next (partition (view t) p) c) (q : ℕ) (e : q ≡ c.partition) where
    there : q < t.count
    there = rw (e, ← ready-view t z r) (owner-there (view t) r.order p c.number c [] sole-record)

    pub send-below : q < max_partitions
    send-below = read-four t q z r there

    pub sends-to : SendsTo t p c q
    unfolding next
    sends-to =
        let h : is_sent c.stage ≡ false = sending-rests c.kind c.stage _ _ n in
        record { owner = e; there = there; four = send-below; room = rw e (request-room (view t) r.order p c.number c [] sole-record h) }

  -- u is whether q is up
  module _ (q : ℕ) (s : SendsTo t p c q) (u : Bool) (v : u ≡ (partition_at t q).up) where
    up-there : (partition (view t) c.partition).up ≡ u
    up-there = ap (λ (j : ℕ). (partition (view t) j).up) (sym s.owner) ∙ read_up t q z r s.there (partition_at t q) refl ∙ sym v

    pub send-down : (a : Answered) → u ≡ false → a ≡ refused_with t TowardsDown → a ≡ stored t (perform (view t) p c Sends)
    unfolding perform
    send-down a f h = h ∙ refuses t _ TowardsDown _ _ refl (up-there ∙ f)

    pub send-goes : (a : Answered) → u ≡ true
        → a ≡ stored t (accept c.number NoReply (send (set_stage (view t) p c.number Sent) p c.partition (message_of Request c))) → a ≡ stored t (perform (view t) p c Sends)
    unfolding perform
    send-goes a f h = h ∙ passes t _ TowardsDown _ _ (up-there ∙ f)

  -- the record stays as it is
  pub stays : (why : Refusal) (a : Answered) → a ≡ refused_with t why → a ≡ stored t (perform (view t) p c (Stays why))
  unfolding perform stored
  stays why a h = h ∙ stay-kept why
    where
      stay-kept : (w : Refusal) → refused_with t w ≡ stored t (refuse w (view t))
      stay-kept w = by_test (is_accepted w) (λ k. rw k (ap (λ (u : Tables). record { answer = record { refusal = w; number = 0; reply = NoReply }; tables = u }) packed-here)) (λ k. rw k refl)

-- a step that was found, by its case
pub step-taken : (t : Tables) (p : ℕ) (c : Record) (s g : Next) (a : Answered) → s ≡ g → a ≡ stored t (perform (view t) p c g) → a ≡ stored t (perform (view t) p c s)
step-taken t p c s g a e h = h ∙ ap (λ (j : Next). stored t (perform (view t) p c j)) (sym e)

pub ruleset sendings = (send-below, sends-to)

pub ruleset sent-if-up = (send-down, send-goes)
