-- An accepted delivery moves the number that its message bears, and takes from its weight.
use mathlib.Core.Bool.{false, not, true}
use mathlib.Core.List.{List, Memᴰ, [], ◌++◌, ◌∷◌}
use mathlib.Core.Logic.{◌⊎◌, inl, inr}
use mathlib.Core.Path.{◌∙◌, ◌≡◌, ap, refl, subst, sym}
use Prim.Native.Nat.{◌<◌, ◌≤◌, ℕ}
use lib.Dec.{eqb, lit<}
use lib.ListN.{length}
use borrow.Author.Tests.{eqb-true}
use Rattle.lists.specs.Lists.{keep, one, without}
use Rattle.protocol.specs.Answers.{accepted}
use Rattle.protocol.specs.Deliver.{carry_out, deliver, is_exactly, land, receive, stage_after, verdict, verdict_of}
use Rattle.protocol.specs.Demands.{backpointer_bears}
use Rattle.protocol.specs.Elements.{Backpointer, Body, Cleared, Create, Entry, Held, Kind, Link, Message, No, NoBecause, PlaceTaken, Reason, Record, Refused, Request, Sent, Unlink, Verdict, Yes, body_fits, is_request, is_sent, stage_fits}
use Rattle.protocol.specs.Order.{giver}
use Rattle.protocol.specs.Tables.{Model, Partition, change_backpointers, fresh, in_stage, partition, queue, record_bears, send, set_partition, set_queue, with_backpointers}
use Rattle.lists.proofs.Keep.{keep_snoc, keep-without}
use Rattle.lists.proofs.Members.{append-mem, one-mem, without-mem}
use Rattle.lists.proofs.Tests.{both_true, by_test, eqb_same, no_true}
use Rattle.protocol.proofs.Changes.{alter-else, alter-view, grow-else, home-else, home-view, out-else, out-view, say-else, say-view, shrink-else}
use Rattle.protocol.proofs.Content.{Content, Fine, backpointer_at, fine-else, home, letters, message_at, out, record_at}
use Rattle.protocol.proofs.Few.{answer-giver}
use Rattle.protocol.proofs.Look.{Shape, part-other, part_same, up-four, up_in}
use Rattle.protocol.proofs.Moves.{Moves, move}
use Rattle.protocol.proofs.Neat.{neat-stage}
use Rattle.protocol.proofs.Numbers.{Else, View, about, backs-view, else-trans}
use Rattle.protocol.proofs.Oldest.{deliver-cases, home-in, none_in, out-in}
use Rattle.protocol.proofs.Verdicts.{Judged, adding, dropping, judged, missing, place_other, place_own, refusing}
use Rattle.protocol.proofs.Whole.{Fit, Moved, Sound, Way, Whole, asking, idle, mail_of, of_backpointer, of_entry, or_more, recs_of, rest_add, rest_unlink, rests, told, weigh}

-- back-pointers of p's number n come or go at q; the rest of its view stays
module _ (m : Model) (p n q : ℕ) (s : Shape m) (u : (partition m q).up ≡ true) (f : List Backpointer → List Backpointer) where
  backs-open : {E : List Entry} {R : List Record} {B : ℕ → List Backpointer} {M : ℕ → ℕ → List Message} → View m p n E R B M
      → View (change_backpointers m q f) p n E R (λ q'. keep (backpointer_bears p n) (partition (change_backpointers m q f) q').backpointers) M
  unfolding change_backpointers
  backs-open v =
      let x : Partition = with_backpointers (partition m q) (f (partition m q).backpointers) in
      backs-view m p n q s u f v (λ q'. keep (backpointer_bears p n) (partition (set_partition m q x) q').backpointers)
      (sym (ap (λ (y : Partition). keep (backpointer_bears p n) y.backpointers) (part_same m q x (up_in m q u))))
      (λ q' e. sym (v.backpointers q') ∙ sym
      (ap (λ (y : Partition). keep (backpointer_bears p n) y.backpointers) (part-other m q x (up_in m q u) q' e)))

  backs-fine : ((b : Backpointer) → Memᴰ b (keep (backpointer_bears p n) (f (partition m q).backpointers)) → Fine m (of_backpointer q b))
      → ((q' : ℕ) (b : Backpointer) → Memᴰ b (keep (backpointer_bears p n) (partition m q').backpointers) → Fine m (of_backpointer q' b))
      → (q' : ℕ) (b : Backpointer) → Memᴰ b (keep (backpointer_bears p n) (partition (change_backpointers m q f) q').backpointers)
      → Fine m (of_backpointer q' b)
  unfolding change_backpointers
  backs-fine g o q' b i =
      let x : Partition = with_backpointers (partition m q) (f (partition m q).backpointers) in
      by_test (eqb q' q)
      (λ t. let e : q' ≡ q = eqb-true q' q t in rw e (g b (rw (part_same m q x (up_in m q u)) at (rw e at i))))
      (λ t. o q' b (rw (part-other m q x (up_in m q u) q' t) at i))

-- an answer weighs less than a request, and what it lands as less than the answer
told-less : (E : List Entry) (k : Kind) (t : Body) → weigh E (told k t) < weigh E (asking k)
told-less [] Link t = lit< tt
told-less [] Create t = lit< tt
told-less [] Unlink t = lit< tt
told-less (e ∷ E) Link t = lit< tt
told-less (e ∷ E) Create t = lit< tt
told-less (e ∷ E) Unlink t = lit< tt

add-lands : (E : List Entry) → (rest_add E Held < or_more E 6 2) × ((x : Reason) → rest_add E (Refused x) < or_more E 6 2)
add-lands [] = (lit< tt, λ x. lit< tt)
add-lands (e ∷ E) = (lit< tt, λ x. lit< tt)

unlink-lands : (E : List Entry) → rest_unlink E Cleared < 2
unlink-lands [] = lit< tt
unlink-lands (e ∷ E) = lit< tt

pub lands : (E : List Entry) (k : Kind) (t : Body) → body_fits k t ≡ true → is_request t ≡ false
    → (stage_fits k (stage_after k t) ≡ true) × (is_sent (stage_after k t) ≡ false) × (weigh E (rests k (stage_after k t)) < weigh E (told k t))
lands E Unlink t a b = (refl, refl, unlink-lands E)
lands E Link Request a b = no_true refl b
lands E Link Yes a b = (refl, refl, (add-lands E).0)
lands E Link No a b = no_true a refl
lands E Link (NoBecause x) a b = (refl, refl, (add-lands E).1 x)
lands E Create Request a b = no_true refl b
lands E Create Yes a b = (refl, refl, (add-lands E).0)
lands E Create No a b = no_true a refl
lands E Create (NoBecause x) a b = (refl, refl, (add-lands E).1 x)

-- a request is answered: at p, the record n of the content c; m is without the request
module _ (m : Model) (p n : ℕ) (c : Content) (s : Shape m) (h : (partition m p).up ≡ true) (hq : (partition m c.partition).up ≡ true) (fi : Fine m c)
    (E : List Entry) (si : length E ≤ 1) (ef : (e : Entry) → Memᴰ e E → Fine m (of_entry e))
    (k : Kind) (B : ℕ → List Backpointer) (bf : (q : ℕ) (b : Backpointer) → Memᴰ b (B q) → Fine m (of_backpointer q b))
    (v : View m p n E (record_at c n k Sent ∷ []) B (λ a b. [])) where
  abbrev asked : Message
  asked = message_at c n k Request

  home-is : (t : Body) → is_request t ≡ false → giver t c.partition p ≡ p
  home-is t e = answer-giver c.partition p t (ap not e)

  say-moved : (t : Body) → body_fits k t ≡ true → is_request t ≡ false → Moved m (send m c.partition p (message_at c n k t)) p n (weigh E (asking k))
  say-moved t a b =
      move m p n c s h B bf E (told k t) (say-else m p n c s h hq k t (home-is t b)) (say-view m p n c s h hq k t (home-is t b) v) (fi, a, b) si ef
      (told-less E k t)

  old-fine : (q' : ℕ) (b : Backpointer) → Memᴰ b (keep (backpointer_bears p n) (partition m q').backpointers) → Fine m (of_backpointer q' b)
  old-fine q' b i = bf q' b (rw (v.backpointers q') at i)

  -- yes, with a change of back-pointers
  yes-moved : (f : List Backpointer → List Backpointer) → Else m (change_backpointers m c.partition f) p n
      → ((b : Backpointer) → Memᴰ b (keep (backpointer_bears p n) (f (partition m c.partition).backpointers))
      → Fine m (of_backpointer c.partition b))
      → Moved m (send (change_backpointers m c.partition f) c.partition p (message_at c n k Yes)) p n (weigh E (asking k))
  yes-moved f o fresh =
      let m' : Model = change_backpointers m c.partition f in
      let h' : (partition m' p).up ≡ true = o.ups p ∙ h in
      let hq' : (partition m' c.partition).up ≡ true = o.ups c.partition ∙ hq in
      move m p n c s h _ (backs-fine m p n c.partition s hq f fresh old-fine) E (told k Yes)
      (else-trans o (say-else m' p n c o.shape h' hq' k Yes refl))
      (say-view m' p n c o.shape h' hq' k Yes refl (backs-open m p n c.partition s hq f v)) (fi, refl, refl) si ef (told-less E k Yes)

  abbrev bs : List Backpointer
  bs = (partition m c.partition).backpointers

  carry-moved : (w : Verdict) → Judged bs p asked k w → Moved m (carry_out m p c.partition asked w) p n (weigh E (asking k))
  unfolding carry_out
  carry-moved w (place_own a y ys e t) = say-moved Yes refl refl
  carry-moved w (place_other a y ys e t) = say-moved (NoBecause PlaceTaken) a refl
  carry-moved w (refusing a e why) = say-moved (NoBecause why) a refl
  carry-moved w (adding a e r) =
      yes-moved (λ l. l ++ backpointer_at c n p ∷ []) (grow-else m p n c s hq e r)
      (λ b i. grown b (append-mem (keep (backpointer_bears p n) bs) _ b (rw (keep_snoc (backpointer_bears p n) bs (backpointer_at c n p)) at i)))
    where
      grown : (b : Backpointer)
          → Memᴰ b (keep (backpointer_bears p n) bs) ⊎ Memᴰ b (one (backpointer_bears p n (backpointer_at c n p)) (backpointer_at c n p))
          → Fine m (of_backpointer c.partition b)
      grown b (inl j) = old-fine c.partition b j
      grown b (inr j) = subst (λ (y : Backpointer). Fine m (of_backpointer c.partition y))
          (sym (one-mem (backpointer_bears p n (backpointer_at c n p)) b (backpointer_at c n p) j).1) fi
  carry-moved w (missing a e) = say-moved No (rw a refl) refl
  carry-moved w (dropping a) =
      yes-moved (without (is_exactly p asked)) (shrink-else m p n c s hq k Request)
      (λ b i. old-fine c.partition b
      (without-mem (is_exactly p asked) (keep (backpointer_bears p n) bs) b (rw (keep-without (backpointer_bears p n) (is_exactly p asked) bs) at i)))

  request-moved : Moved m (carry_out m p c.partition asked (verdict (partition m c.partition) p asked)) p n (weigh E (asking k))
  unfolding verdict
  request-moved = carry-moved (verdict_of k bs p asked) (judged bs p asked k)

-- by the way of the number that the oldest message bears
module _ (m : Model) (p n : ℕ) (c : Content) (s : Shape m) (a b : ℕ) (ha : (partition m a).up ≡ true) (hb : (partition m b).up ≡ true)
    (E : List Entry) (si : length E ≤ 1) (ef : (e : Entry) → Memᴰ e E → Fine m (of_entry e))
    (B : ℕ → List Backpointer) (bf : (q : ℕ) (b : Backpointer) → Memᴰ b (B q) → Fine m (of_backpointer q b))
    (x : Message) (l : List Message) (q : queue m a b ≡ x ∷ l) (is : about a b p n x ≡ true) where
  abbrev Goes : ℕ → Model → Type 0
  Goes w m' = Moved m m' p n w

  after : {m₁ m₂ : Model} {w : ℕ} → Else m m₁ p n → Moved m₁ m₂ p n w → Moved m m₂ p n w
  after o z = record { others = else-trans o z.others; to = z.to; less = z.less }

  out-moved : (k : Kind) → Fine m c → (partition m p).up ≡ true → (partition m c.partition).up ≡ true
      → queue m p c.partition ≡ message_at c n k Request ∷ l
      → View m p n E (record_at c n k Sent ∷ []) B (letters c n p (out k))
      → Moved m (receive Request (set_queue m p c.partition l) p c.partition (message_at c n k Request)) p n (weigh E (asking k))
  out-moved k fi h hq r v =
      let o : Else m (set_queue m p c.partition l) p n = out-else m p n c s h hq fi k l r in
      after o (request-moved _ p n c o.shape (o.ups p ∙ h) (o.ups c.partition ∙ hq) (fine-else o.count fi) E si
      (λ e i. fine-else o.count (ef e i)) k B (λ q b i. fine-else o.count (bf q b i))
      (out-view m p n c s h hq fi k l r v))

  home-moved : (k : Kind) (t : Body) → Fine m c → body_fits k t ≡ true → is_request t ≡ false → (partition m p).up ≡ true
      → (partition m c.partition).up ≡ true → queue m c.partition p ≡ message_at c n k t ∷ l
      → View m p n E (record_at c n k Sent ∷ []) B (letters c n p (home k t))
      → Moved m (land (set_queue m c.partition p l) p (message_at c n k t)) p n (weigh E (told k t))
  home-moved k t fi to nr h hq r v =
      let g : giver t c.partition p ≡ p = answer-giver c.partition p t (ap not nr) in
      let o : Else m (set_queue m c.partition p l) p n = home-else m p n c s h hq fi k l t g r in
      let h' : (partition (set_queue m c.partition p l) p).up ≡ true = o.ups p ∙ h in
      let z = lands E k t to nr in
      move m p n c s h B bf E (rests k (stage_after k t))
      (else-trans o (alter-else _ p n o.shape h' (in_stage (stage_after k t)) (λ r. refl) (neat-stage _ (record_bears n) (stage_after k t))))
      (alter-view _ p n o.shape h' (in_stage (stage_after k t)) (λ r. refl) (home-view m p n c s h hq fi k l t g r v)) (fi, z.0, z.1) si ef z.2

  deliver-in : (w : Way) → Sound m c w → View m p n E (recs_of c n w) B (letters c n p (mail_of w))
      → Goes (weigh E w) (receive x.body (set_queue m a b l) a b x)
  deliver-in idle so v = none_in m p n c a b ha hb x l q is (Goes 0) (v.messages a b (up-four s b hb))
  deliver-in (rests k t) so v = none_in m p n c a b ha hb x l q is (Goes (weigh E (rests k t))) (v.messages a b (up-four s b hb))
  deliver-in (asking k) so v = out-in m p n c a b ha hb x l q is (Goes (weigh E (asking k))) k (v.messages a b (up-four s b hb))
      (λ h hq r. out-moved k so h hq r v)
  deliver-in (told k t) so v =
      home-in m p n c a b ha hb x l q is (Goes (weigh E (told k t))) k t so.2 (v.messages a b (up-four s b hb))
      (λ h hq r. home-moved k t so.0 so.1 so.2 h hq r v)

pub deliver-moved : (m : Model) (a b : ℕ) (i : Whole m) → accepted (deliver m a b) ≡ true → Moves m (deliver m a b).model i
deliver-moved m a b i =
    deliver-cases m a b i.shape i.downs (λ m'. Moves m m' i)
    (λ x l ha hb q.
    let p : ℕ = giver x.body a b in
    let y : Fit m p x.number = i.local p x.number in
    record {
      giver = p;
      number = x.number;
      moved = deliver-in m p x.number y.what i.shape a b ha hb y.entries y.single y.entries_fine y.backpointers
          y.backpointers_fine x l q (both_true (eqb_same p) (eqb_same x.number)) y.way y.sound y.has;
    })
