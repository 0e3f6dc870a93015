-- An accepted advance or delivery keeps the ties.
use mathlib.Core.Bool.{Bool, ◌&&◌, false, not, true}
use mathlib.Core.List.{List, [], ◌∷◌, head-eq_of_cons-eq}
use mathlib.Core.Path.{◌∙◌, ◌≡◌, ap, refl, sym}
use Prim.Native.Nat.{◌≤◌, ℕ}
use lib.Dec.{eqb}
use lib.ListN.{length}
use borrow.Author.Tests.{eq-eqb}
use Rattle.lists.specs.Lists.{is_some, keep, one}
use Rattle.protocol.specs.Advance.{advance, advance_found, next, next_of, next_to_add, next_to_remove, perform}
use Rattle.protocol.specs.Answers.{accepted, check}
use Rattle.protocol.specs.Deliver.{carry_out, deliver, in_its_place, is_exactly, land, receive, stage_after, verdict, verdict_of}
use Rattle.protocol.specs.Demands.{backpointer_bears}
use Rattle.protocol.specs.Elements.{Backpointer, Body, Cleared, Create, Entry, Held, Kind, Link, Message, Name, Next, No, NoBecause, PlaceTaken, Ready, Record, Refused, Request, Sends, Sent, Stage, Unlink, Verdict, Yes, adds, body_fits, is_request}
use Rattle.protocol.specs.Order.{giver}
use Rattle.protocol.specs.Tables.{Model, close_record, in_place, in_stage, partition, queue, record_bears, send, set_queue, stands_under, turned}
use Rattle.lists.proofs.Keep.{alone, kept, seen}
use Rattle.lists.proofs.Tests.{both_true, by_test, eqb_same, no_true}
use Rattle.names.proofs.Laws.{name-same}
use Rattle.protocol.proofs.Advances.{advance-cases, sent-stays}
use Rattle.protocol.proofs.Changes.{alter-else, alter-view, close-else, close-view, enter-else, enter-view, exact_same, grow-else, grow-view, home-else, home-view, leave-else, leave-view, no_step, out-else, out-view, say-else, say-view, sent, sent-else, sent-view, shrink-else, shrink-view}
use Rattle.protocol.proofs.Content.{Content, DownsRest, Fine, backpointer_at, entry_at, fine-else, message_at, record_at}
use Rattle.protocol.proofs.Few.{answer-giver}
use Rattle.protocol.proofs.Look.{Shape, place-true, up-four}
use Rattle.protocol.proofs.Neat.{neat-enter, neat-stage, neat-turn}
use Rattle.protocol.proofs.Numbers.{Else, View, about, else-trans, part-queue}
use Rattle.protocol.proofs.Oldest.{deliver-cases, home-in, none_in, out-in}
use Rattle.protocol.proofs.Ties.{Has, Tie, Tied, Ties, backs_of, rule, rule_add, rule_answer, rule_unlink}
use Rattle.protocol.proofs.Verdicts.{Judged, adding, dropping, judged, missing, place_other, place_own, refusing}
use Rattle.protocol.proofs.Whole.{Way, asking, idle, recs_of, rests, told}

-- no two back-pointers share object, parent, directory and name
abbrev pub Keyed : Model → Type 0
Keyed m = (q o a d : ℕ) (s : Name) → length (keep (in_place o a d s) (partition m q).backpointers) ≤ 1

rule-rests : (k : Kind) → adds k ≡ true → (s : Stage) (e st : Bool) → rule (rests k s) e st ≡ rule_add s e st
rule-rests Link a s e st = refl
rule-rests Create a s e st = refl
rule-rests Unlink a s e st = no_true a refl

rule_told : (k : Kind) → adds k ≡ true → (t : Body) (e st : Bool) → rule (told k t) e st ≡ rule_answer t e st
rule_told Link a t e st = refl
rule_told Create a t e st = refl
rule_told Unlink a t e st = no_true a refl

-- an unlink is answered where no back-pointer stands
rule-gone : (k : Kind) → adds k ≡ false → (t : Body) → body_fits k t && not (is_request t) ≡ true → rule (told k t) false false ≡ true
rule-gone Link a t f = no_true refl a
rule-gone Create a t f = no_true refl a
rule-gone Unlink a Request f = no_true f refl
rule-gone Unlink a Yes f = refl
rule-gone Unlink a No f = refl
rule-gone Unlink a (NoBecause x) f = no_true f refl

rule-lands : (k : Kind) (t : Body) (e st : Bool) → rule (told k t) e st ≡ true → (is_request t ≡ false) × (rule (rests k (stage_after k t)) e st ≡ true)
rule-lands Link Request e st r = no_true r refl
rule-lands Link Yes true st r = no_true r refl
rule-lands Link Yes false st r = (refl, r)
rule-lands Link No e st r = no_true r refl
rule-lands Link (NoBecause x) true st r = no_true r refl
rule-lands Link (NoBecause x) false st r = (refl, r)
rule-lands Create Request e st r = no_true r refl
rule-lands Create Yes true st r = no_true r refl
rule-lands Create Yes false st r = (refl, r)
rule-lands Create No e st r = no_true r refl
rule-lands Create (NoBecause x) true st r = no_true r refl
rule-lands Create (NoBecause x) false st r = (refl, r)
rule-lands Unlink Request e st r = no_true r refl
rule-lands Unlink Yes true st r = no_true r refl
rule-lands Unlink Yes false st r = (refl, r)
rule-lands Unlink No true st r = no_true r refl
rule-lands Unlink No false st r = (refl, r)
rule-lands Unlink (NoBecause x) e st r = no_true r refl

module _ (m : Model) (p n : ℕ) (c : Content) (s : Shape m) (h : (partition m p).up ≡ true) (fi : Fine m c) where
  tied : {m' : Model} (w : Way) (e st : Bool) → Else m m' p n → Has m' p n c w e st → rule w e st ≡ true → Tied m m' p n
  tied w e st o v r = record
      { others = o; to = record { what = c; way = w; entry = e; back = st; fine = fine-else o.count fi; rule = r; has = v } }

  send-tied : (k : Kind) (st : Bool) → Has m p n c (rests k Ready) false st → accepted (perform m p (record_at c n k Ready) Sends) ≡ true
      → Tied m (perform m p (record_at c n k Ready) Sends).model p n
  unfolding perform check sent
  send-tied k st v e =
      by_test (partition m c.partition).up
      (λ t. rw (t, perform, check) (tied (asking k) false st (sent-else m p n c s h fi k t) (sent-view m p n c s h fi k t v) refl))
      (λ t. no_step (rw t at e))

  close-tied : (e st : Bool) (r : Record) → rule idle e st ≡ true → View m p n (one e (entry_at c n)) (r ∷ []) (backs_of c n p st) (λ a b. [])
      → Tied m (close_record m p n) p n
  close-tied e st r u v = tied idle e st (close-else m p n s h) (close-view m p n s h v) u

  -- by stage and entry; T stands under the name
  module _ (T : List Entry) (under : keep (stands_under c.directory c.name) (partition m p).entries ≡ T) where
    abbrev Does : Kind → Stage → Bool → Bool → Next → Type 0
    Does k g e st x = Has m p n c (rests k g) e st → accepted (perform m p (record_at c n k g) x) ≡ true → Tied m
        (perform m p (record_at c n k g) x).model p n

    held-tied : (k : Kind) → adds k ≡ true → (st : Bool) → st ≡ true → (T' : List Entry) → T ≡ T'
        → Does k Held false st (next_to_add Held false (is_some T'))
    unfolding perform
    held-tied k a st r [] q v z =
        tied (rests k Held) true st
        (enter-else m p n s h (entry_at c n) refl
        (neat-enter (partition m p) (entry_at c n) (record_at c n k Held) (under ∙ q) v.entries v.records refl a))
        (enter-view m p n s h (entry_at c n) refl v) (rule-rests k a Held true st ∙ r)
    held-tied k a st r (x ∷ l) q v z =
        tied (rests Unlink Ready) false st (alter-else m p n s h turned (λ r. refl) (neat-turn (partition m p) (record_bears n)))
        (alter-view m p n s h turned (λ r. refl) v) refl

    add-tied : (k : Kind) → adds k ≡ true → (g : Stage) (e st : Bool) → rule_add g e st ≡ true
        → Does k g e st (next_to_add g (is_some (one e (entry_at c n))) (is_some T))
    unfolding perform
    add-tied k a Ready true st r v z = close-tied true st _ r v
    add-tied k a Ready false st r v z = send-tied k st v z
    add-tied k a Sent e st r v z = no_true r refl
    add-tied k a Held true st r v z = close-tied true st _ r v
    add-tied k a Held false st r v z = held-tied k a st r T refl v z
    add-tied k a (Refused x) true st r v z = no_true r refl
    add-tied k a (Refused x) false st r v z = close-tied false st _ r v
    add-tied k a Cleared e st r v z = no_true r refl

    remove-tied : (g : Stage) (e st : Bool) → rule_unlink g e st ≡ true → Does Unlink g e st (next_to_remove g (is_some (one e (entry_at c n))))
    unfolding perform
    remove-tied Ready true st r v z = tied (rests Unlink Ready) false st (leave-else m p n s h (record_at c n Unlink Ready) v.records refl)
        (leave-view m p n s h v) refl
    remove-tied Ready false st r v z = send-tied Unlink st v z
    remove-tied Sent e st r v z = no_true r refl
    remove-tied Held e st r v z = no_true r refl
    remove-tied (Refused x) e st r v z = no_true r refl
    remove-tied Cleared true st r v z = no_true r refl
    remove-tied Cleared false st r v z = close-tied false st _ r v

    rest-tied : (k : Kind) (g : Stage) (e st : Bool) → rule (rests k g) e st ≡ true
        → Does k g e st (next_of k g (is_some (one e (entry_at c n))) (is_some T))
    rest-tied Link g e st r v z = add-tied Link refl g e st r v z
    rest-tied Create g e st r v z = add-tied Create refl g e st r v z
    rest-tied Unlink g e st r v z = remove-tied g e st r v z

  advance-in : (w : Way) (e st : Bool) → rule w e st ≡ true → Has m p n c w e st → accepted (advance_found m p (recs_of c n w)) ≡ true
      → Tied m (advance_found m p (recs_of c n w)).model p n
  unfolding next
  advance-in idle e st r v z = no_step z
  advance-in (rests k g) e st r v z =
      rw v.entries (rest-tied (keep (stands_under c.directory c.name) (partition m p).entries) refl k g e st r v (rw v.entries at z))
  advance-in (asking k) e st r v z = sent-stays m p _ k _ _ z
  advance-in (told k t) e st r v z = sent-stays m p _ k _ _ z

pub advance-tied : (m : Model) (p n : ℕ) → Shape m → (x : Tie m p n) → accepted (advance m p n) ≡ true → Tied m (advance m p n).model p n
advance-tied m p n s x =
    advance-cases m p n (recs_of x.what n x.way) x.has.records (λ m'. Tied m m' p n)
    (λ h e. advance-in m p n x.what s h x.fine x.way x.entry x.back x.rule x.has e)

-- a request is answered; m is without it
module _ (m : Model) (p n : ℕ) (c : Content) (s : Shape m) (h : (partition m p).up ≡ true) (hq : (partition m c.partition).up ≡ true)
    (fi : Fine m c) (k : Kind) where
  abbrev asked : Message
  asked = message_at c n k Request

  abbrev bs : List Backpointer
  bs = (partition m c.partition).backpointers

  abbrev Open : (ℕ → List Backpointer) → Type 0
  Open B = View m p n [] (record_at c n k Sent ∷ []) B (λ a b. [])

  say-tied : (t : Body) (st : Bool) → is_request t ≡ false → rule (told k t) false st ≡ true → Open (backs_of c n p st)
      → Tied m (send m c.partition p (message_at c n k t)) p n
  say-tied t st nr r v =
      let g : giver t c.partition p ≡ p = answer-giver c.partition p t (ap not nr) in
      tied m p n c s h fi (told k t) false st (say-else m p n c s h hq k t g) (say-view m p n c s h hq k t g v) r

  -- yes, with a change of back-pointers
  yes-tied : {m' : Model} (st : Bool) → Else m m' p n → View m' p n [] (record_at c n k Sent ∷ []) (backs_of c n p st) (λ a b. [])
      → rule (told k Yes) false st ≡ true → Tied m (send m' c.partition p (message_at c n k Yes)) p n
  yes-tied st o v r =
      tied m p n c s h fi (told k Yes) false st
      (else-trans o (say-else _ p n c o.shape (o.ups p ∙ h) (o.ups c.partition ∙ hq) k Yes refl))
      (say-view _ p n c o.shape (o.ups p ∙ h) (o.ups c.partition ∙ hq) k Yes refl v) r

  -- the number's own back-pointer, where it stands
  own : Open (backs_of c n p true) → keep (backpointer_bears p n) bs ≡ backpointer_at c n p ∷ []
  own v = v.backpointers c.partition ∙ rw (eqb_same c.partition) refl

  own-place : in_its_place p asked (backpointer_at c n p) ≡ true
  own-place = rw (eqb_same c.object, eqb_same p, eqb_same c.directory, name-same c.name) refl

  carry-tied : (w : Verdict) → Judged bs p asked k w → (st : Bool) → Keyed m → Open (backs_of c n p st)
      → Tied m (carry_out m p c.partition asked w) p n
  unfolding carry_out
  carry-tied w (place_own a y ys e t) true ky v = say-tied Yes true refl (rule_told k a Yes false true) v
  carry-tied w (place_own a y ys e t) false ky v =
      let i = place-true c.object p c.directory c.name y (kept (in_its_place p asked) bs y ys e) in
      absurd (seen (in_its_place p asked) (backpointer_bears p n) bs y ys e (both_true (eq-eqb _ _ i.1) t) (v.backpointers c.partition))
  carry-tied w (place_other a y ys e t) true ky v =
      let u : keep (in_its_place p asked) bs ≡ backpointer_at c n p ∷ [] =
      alone (backpointer_bears p n) (in_its_place p asked) bs (backpointer_at c n p) [] (own v) own-place
      (ky c.partition c.object p c.directory c.name) in
      no_true (eqb_same n) (ap (λ (b : Backpointer). eqb b.number n) (head-eq_of_cons-eq (sym u ∙ e)) ∙ t)
  carry-tied w (place_other a y ys e t) false ky v = say-tied (NoBecause PlaceTaken) false refl (rule_told k a (NoBecause PlaceTaken) false false) v
  carry-tied w (refusing a e why) true ky v = absurd
      (seen (backpointer_bears p n) (in_its_place p asked) bs (backpointer_at c n p) [] (own v) own-place e)
  carry-tied w (refusing a e why) false ky v = say-tied (NoBecause why) false refl (rule_told k a (NoBecause why) false false) v
  carry-tied w (adding a e r) true ky v = absurd (seen (backpointer_bears p n) (in_its_place p asked) bs (backpointer_at c n p) [] (own v) own-place e)
  carry-tied w (adding a e r) false ky v = yes-tied true (grow-else m p n c s hq e r) (grow-view m p n c s hq v) (rule_told k a Yes false true)
  carry-tied w (missing a e) true ky v = absurd
      (seen (backpointer_bears p n) (is_exactly p asked) bs (backpointer_at c n p) [] (own v) (exact_same m p n c s hq k Request) e)
  carry-tied w (missing a e) false ky v = say-tied No false refl (rule-gone k a No (rw a refl)) v
  carry-tied w (dropping a) st ky v = yes-tied false (shrink-else m p n c s hq k Request) (shrink-view m p n c s hq k Request st v)
      (rule-gone k a Yes refl)

  request-tied : (st : Bool) → Keyed m → Open (backs_of c n p st)
      → Tied m (carry_out m p c.partition asked (verdict (partition m c.partition) p asked)) p n
  unfolding verdict
  request-tied st ky v = carry-tied (verdict_of k bs p asked) (judged bs p asked k) st ky v

keyed-queue : (m : Model) (a b : ℕ) (l : List Message) → Keyed m → Keyed (set_queue m a b l)
keyed-queue m a b l ky q o g d t = rw (part-queue m a b l q) (ky q o g d t)

module _ (m : Model) (p n : ℕ) (c : Content) (s : Shape m) (ky : Keyed m) (a b : ℕ) (ha : (partition m a).up ≡ true) (hb : (partition m b).up ≡ true)
    (fi : Fine m c) (x : Message) (l : List Message) (q : queue m a b ≡ x ∷ l) (is : about a b p n x ≡ true) where
  abbrev Goes : Model → Type 0
  Goes m' = Tied m m' p n

  after : {m₁ m₂ : Model} → Else m m₁ p n → Tied m₁ m₂ p n → Tied m m₂ p n
  after o z = record { others = else-trans o z.others; to = z.to }

  land-tied : (k : Kind) (t : Body) (e st : Bool) → rule (told k t) e st ≡ true → (partition m p).up ≡ true → (partition m c.partition).up ≡ true
      → queue m c.partition p ≡ message_at c n k t ∷ l
      → Has m p n c (told k t) e st → Tied m (land (set_queue m c.partition p l) p (message_at c n k t)) p n
  land-tied k t e st r h hq z v =
      let y = rule-lands k t e st r in
      let g : giver t c.partition p ≡ p = answer-giver c.partition p t (ap not y.0) in
      let o : Else m (set_queue m c.partition p l) p n = home-else m p n c s h hq fi k l t g z in
      let h' : (partition (set_queue m c.partition p l) p).up ≡ true = o.ups p ∙ h in
      tied m p n c s h fi (rests k (stage_after k t)) e st
      (else-trans o (alter-else _ p n o.shape h' (in_stage (stage_after k t)) (λ r. refl) (neat-stage _ (record_bears n) (stage_after k t))))
      (alter-view _ p n o.shape h' (in_stage (stage_after k t)) (λ r. refl) (home-view m p n c s h hq fi k l t g z v)) y.1

  out-tied : (k : Kind) (e st : Bool) → rule (asking k) e st ≡ true → (partition m p).up ≡ true → (partition m c.partition).up ≡ true
      → queue m p c.partition ≡ message_at c n k Request ∷ l
      → Has m p n c (asking k) e st → Tied m (receive Request (set_queue m p c.partition l) p c.partition (message_at c n k Request)) p n
  out-tied k true st r h hq z v = no_true r refl
  out-tied k false st r h hq z v =
      let o : Else m (set_queue m p c.partition l) p n = out-else m p n c s h hq fi k l z in
      after o (request-tied _ p n c o.shape (o.ups p ∙ h) (o.ups c.partition ∙ hq) (fine-else o.count fi) k st
      (keyed-queue m p c.partition l ky) (out-view m p n c s h hq fi k l z v))

  deliver-in : (w : Way) (e st : Bool) → rule w e st ≡ true → Has m p n c w e st → Goes (receive x.body (set_queue m a b l) a b x)
  deliver-in idle e st r v = none_in m p n c a b ha hb x l q is Goes (v.messages a b (up-four s b hb))
  deliver-in (rests k t) e st r v = none_in m p n c a b ha hb x l q is Goes (v.messages a b (up-four s b hb))
  deliver-in (asking k) e st r v = out-in m p n c a b ha hb x l q is Goes k (v.messages a b (up-four s b hb)) (λ h hq z. out-tied k e st r h hq z v)
  deliver-in (told k t) e st r v =
      home-in m p n c a b ha hb x l q is Goes k t (rule-lands k t e st r).0 (v.messages a b (up-four s b hb)) (λ h hq z. land-tied k t e st r h hq z v)

pub record Delivered (m m' : Model) : Type 0 where
  pub giver : ℕ
  pub number : ℕ
  pub tied : Tied m m' giver number

pub deliver-tied : (m : Model) (a b : ℕ) → Ties m → Shape m → Keyed m → DownsRest m → accepted (deliver m a b) ≡ true
    → Delivered m (deliver m a b).model
deliver-tied m a b i s ky dn =
    deliver-cases m a b s dn (Delivered m)
    (λ x l ha hb q.
    let p : ℕ = giver x.body a b in
    let y : Tie m p x.number = i p x.number in
    record {
      giver = p;
      number = x.number;
      tied = deliver-in m p x.number y.what s ky a b ha hb y.fine x l q (both_true (eqb_same p) (eqb_same x.number)) y.way y.entry
          y.back y.rule y.has;
    })
