-- What each change of the tables does to one number, and that it does nothing to the others.
use mathlib.Core.Bool.{Bool, ◌&&◌, false, true}
use mathlib.Core.List.{List, [], ◌++◌, ◌∷◌, map, tail-eq_of_cons-eq}
use mathlib.Core.Path.{◌∙◌, ◌≡◌, ap, ap₂, refl, sym}
use Prim.Native.Nat.{◌<◌, ◌≤◌, suc, ℕ}
use native.Mathlib.Omega.{arith}
use lib.Dec.{eqb}
use lib.ListN.{length}
use borrow.Author.Tests.{eq-eqb, eqb-false, eqb-true, ne_eqb}
use Rattle.lists.specs.Lists.{keep, map_if, one, without}
use Rattle.protocol.specs.Answers.{Outcome, check}
use Rattle.protocol.specs.Bounds.{max_backpointers}
use Rattle.protocol.specs.Deliver.{is_exactly}
use Rattle.protocol.specs.Demands.{backpointer_bears}
use Rattle.protocol.specs.Elements.{Backpointer, Body, Entry, Kind, Message, Ready, Record, Refusal, Request, Sent, Unlink}
use Rattle.protocol.specs.Order.{giver}
use Rattle.protocol.specs.Tables.{Model, Partition, change_backpointers, change_entries, change_records, claimed, entry_bears, in_place, in_stage, partition, queue, record_bears, send, set_partition, set_queue, with_entries, with_last, with_records}
use Rattle.lists.proofs.Keep.{keep-cons-other, keep-cons-same, keep-map_if-other, keep-map_if-same, keep_snoc, keep-snoc-other, keep-without, keep-without-other, keep-without-same}
use Rattle.lists.proofs.Tests.{and_left, and_right, both_true, by_test, eqb_same, no_true}
use Rattle.names.proofs.Laws.{name-same}
use Rattle.protocol.proofs.Content.{AtRest, Content, DownsRest, Fine, backpointer_at, home, letters, message_at, out, record_at, unready}
use Rattle.protocol.proofs.Look.{Shape, is_queue, part_field, place-true, up_in}
use Rattle.protocol.proofs.Neat.{Neat, neat-close, neat-grow, neat-leave, neat-shrink, neat-stage}
use Rattle.protocol.proofs.Numbers.{Else, View, about, backs-else, backs-view, else-trans, entries-else, entries-view, here, queue-else, queue-part, queue-view, records-else, records-view}

pub num-apart : (n n' : ℕ) → eqb n' n ≡ false → (k : ℕ) → eqb k n ≡ true → eqb k n' ≡ false
num-apart n n' e k t = ne_eqb k n' (λ s. eqb-false n' n e (sym s ∙ eqb-true k n t))

module _ (m : Model) (p n : ℕ) (s : Shape m) (h : (partition m p).up ≡ true) where
  -- the record n of p changes in place, and keeps its number
  module _ (u : Record → Record) (same : (r : Record) → (u r).number ≡ r.number) where
    pub alter-else : (Neat (partition m p) → Neat (with_records (partition m p) (map_if (record_bears n) u (partition m p).records)))
        → Else m (change_records m p (map_if (record_bears n) u)) p n
    alter-else w = records-else m p n s h (map_if (record_bears n) u) w
        (λ n' e l. keep-map_if-other (record_bears n) (record_bears n') u (λ x t. num-apart n n' e x.number t) (λ x. rw (same x) refl) l)

    pub alter-view : {E : List Entry} {R : List Record} {B : ℕ → List Backpointer} {M : ℕ → ℕ → List Message}
        → View m p n E R B M → View (change_records m p (map_if (record_bears n) u)) p n E (map u R) B M
    alter-view {R} v = records-view m p n s h (map_if (record_bears n) u) v (map u R)
        (keep-map_if-same (record_bears n) u (λ x. rw (same x) refl) (partition m p).records ∙ ap (map u) v.records)

  -- the record n of p goes
  pub close-else : Else m (change_records m p (without (record_bears n))) p n
  close-else = records-else m p n s h (without (record_bears n)) (neat-close (partition m p) (record_bears n))
      (λ n' e l. keep-without-other (record_bears n) (record_bears n') (λ x t. num-apart n n' e x.number t) l)

  pub close-view : {E : List Entry} {R : List Record} {B : ℕ → List Backpointer} {M : ℕ → ℕ → List Message}
      → View m p n E R B M → View (change_records m p (without (record_bears n))) p n E [] B M
  close-view v = records-view m p n s h (without (record_bears n)) v [] (keep-without-same (record_bears n) (partition m p).records)

  -- the entry n of p goes
  pub leave-else : (r : Record) → keep (record_bears n) (partition m p).records ≡ r ∷ [] → r.kind ≡ Unlink
      → Else m (change_entries m p (without (entry_bears n))) p n
  leave-else r kr ru = entries-else m p n s h (without (entry_bears n)) (neat-leave (partition m p) n r kr ru)
      (λ n' e l. keep-without-other (entry_bears n) (entry_bears n') (λ x t. num-apart n n' e x.number t) l)

  pub leave-view : {E : List Entry} {R : List Record} {B : ℕ → List Backpointer} {M : ℕ → ℕ → List Message}
      → View m p n E R B M → View (change_entries m p (without (entry_bears n))) p n [] R B M
  leave-view v = entries-view m p n s h (without (entry_bears n)) v [] (keep-without-same (entry_bears n) (partition m p).entries)

  -- an entry n comes
  pub enter-else : (e : Entry) → e.number ≡ n → (Neat (partition m p) → Neat (with_entries (partition m p) ((partition m p).entries ++ e ∷ [])))
      → Else m (change_entries m p (λ l. l ++ e ∷ [])) p n
  enter-else e k w = entries-else m p n s h (λ l. l ++ e ∷ []) w
      (λ n' t l. keep-snoc-other (entry_bears n') l e (num-apart n n' t e.number (eq-eqb e.number n k)))

  pub enter-view : (e : Entry) → e.number ≡ n → {R : List Record} {B : ℕ → List Backpointer} {M : ℕ → ℕ → List Message}
      → View m p n [] R B M → View (change_entries m p (λ l. l ++ e ∷ [])) p n (e ∷ []) R B M
  enter-view e k v = entries-view m p n s h (λ l. l ++ e ∷ []) v (e ∷ [])
      (keep_snoc (entry_bears n) (partition m p).entries e ∙ rw (v.entries, eq-eqb e.number n k) refl)

-- a message about p's number n is sent from a to b
pub apart-about : (p n p' n' : ℕ) → here p n p' n' ≡ false → (g k : ℕ) → eqb g p && eqb k n ≡ true → eqb g p' && eqb k n' ≡ false
apart-about p n p' n' e g k t =
    rw (eqb-true g p (and_left _ _ t), eqb-true k n (and_right (eqb g p) _ t))
    (by_test (eqb p p' && eqb n n')
    (λ f. no_true (ap₂ ◌&&◌ (eq-eqb p' p (sym (eqb-true p p' (and_left _ _ f)))) (eq-eqb n' n (sym (eqb-true n n' (and_right (eqb p p') _ f))))) e)
    (λ f. f))

module _ (m : Model) (p n a b : ℕ) (s : Shape m) (ha : (partition m a).up ≡ true) (hb : (partition m b).up ≡ true) (x : Message)
    (is : about a b p n x ≡ true) where
  pub push_else : Else m (send m a b x) p n
  unfolding send
  push_else = queue-else m p n a b s ha hb (queue m a b ++ x ∷ [])
      (λ p' n' e. keep-snoc-other (about a b p' n') (queue m a b) x (apart-about p n p' n' e (giver x.body a b) x.number is))

  pub push-view : {E : List Entry} {R : List Record} {B : ℕ → List Backpointer}
      → View m p n E R B (λ a b. []) → View (send m a b x) p n E R B (λ a' b'. one (is_queue a b a' b') x)
  unfolding send
  push-view v = queue-view m p n a b s ha hb (queue m a b ++ x ∷ []) v (λ a' b'. one (is_queue a b a' b') x)
      (keep_snoc (about a b p n) (queue m a b) x ∙ rw
      (v.messages a b (let k = s.partitions in let l = up_in m b hb in omega arith), is, eqb_same a, eqb_same b) refl)
      (λ a' b' e. rw e refl)

-- a refusal is no step
pub no_step : {G : Type 0} → false ≡ true → G
no_step e = no_true e refl

module _ (m : Model) (p n : ℕ) (c : Content) (s : Shape m) (h : (partition m p).up ≡ true) (fi : Fine m c) where
  -- a ready record without an entry is sent
  unfoldable pub sent : Kind → Model
  sent k = send (change_records m p (map_if (record_bears n) (in_stage Sent))) p c.partition (message_at c n k Request)

  pub sent-else : (k : Kind) → (partition m c.partition).up ≡ true → Else m (sent k) p n
  unfolding sent
  sent-else k hq =
      let o : Else m (change_records m p (map_if (record_bears n) (in_stage Sent))) p n = alter-else m p n s h (in_stage Sent) (λ r. refl)
      (neat-stage (partition m p) (record_bears n) Sent) in
      else-trans o (push_else _ p n p c.partition o.shape (o.ups p ∙ h) (o.ups c.partition ∙ hq) (message_at c n k Request)
      (rw (eqb_same p, eqb_same n) refl))

  pub sent-view : (k : Kind) → (partition m c.partition).up ≡ true → {B : ℕ → List Backpointer}
      → View m p n [] (record_at c n k Ready ∷ []) B (λ a b. [])
      → View (sent k) p n [] (record_at c n k Sent ∷ []) B (letters c n p (out k))
  unfolding sent
  sent-view k hq v =
      let o : Else m (change_records m p (map_if (record_bears n) (in_stage Sent))) p n = alter-else m p n s h (in_stage Sent) (λ r. refl)
      (neat-stage (partition m p) (record_bears n) Sent) in
      push-view _ p n p c.partition o.shape (o.ups p ∙ h) (o.ups c.partition ∙ hq) (message_at c n k Request)
      (rw (eqb_same p, eqb_same n) refl)
      (alter-view m p n s h (in_stage Sent) (λ r. refl) v)

-- the oldest message goes
module _ (m : Model) (p n a b : ℕ) (s : Shape m) (ha : (partition m a).up ≡ true) (hb : (partition m b).up ≡ true) (x : Message) (l : List Message)
    (q : queue m a b ≡ x ∷ l) where
  pub pop-else : about a b p n x ≡ true → Else m (set_queue m a b l) p n
  pop-else is = queue-else m p n a b s ha hb l
      (λ p' n' e. sym (keep-cons-other (about a b p' n') l x (apart-about p n p' n' e (giver x.body a b) x.number is)) ∙ ap
      (keep (about a b p' n')) (sym q))

  -- it was the only one of its number
  pub pop-view : about a b p n x ≡ true → {E : List Entry} {R : List Record} {B : ℕ → List Backpointer} (M : ℕ → ℕ → List Message) (y : Message)
      → M a b ≡ y ∷ [] → ((a' b' : ℕ) → is_queue a b a' b' ≡ false → M a' b' ≡ []) → View m p n E R B M
      → View (set_queue m a b l) p n E R B (λ a' b'. [])
  pop-view is M y e o v = queue-view m p n a b s ha hb l v (λ a' b'. [])
      (tail-eq_of_cons-eq (sym (keep-cons-same (about a b p n) l x is) ∙ ap (keep (about a b p n)) (sym q) ∙ v.messages a b
      (let k = s.partitions in let l = up_in m b hb in omega arith) ∙ e)) o

pub exactly-bears : (p : ℕ) (x : Message) (b : Backpointer) → is_exactly p x b ≡ true → backpointer_bears p x.number b ≡ true
exactly-bears p x b f =
    both_true (eq-eqb _ _ (place-true x.object p x.directory x.name b (and_right (eqb b.number x.number) _ f)).1) (and_left _ _ f)

-- back-pointers of p's number n come and go
module _ (m : Model) (p n : ℕ) (c : Content) (s : Shape m) (hq : (partition m c.partition).up ≡ true) where
  pub grow-else : keep (in_place c.object p c.directory c.name) (partition m c.partition).backpointers ≡ []
      → length (partition m c.partition).backpointers < max_backpointers → Else m (change_backpointers m c.partition (λ l. l ++ backpointer_at c n p ∷ [])) p n
  grow-else ky hl = backs-else m p n c.partition s hq (λ l. l ++ backpointer_at c n p ∷ [])
      (neat-grow (partition m c.partition) (backpointer_at c n p) (ap length ky) hl)
      (λ p' n' e l. keep-snoc-other (backpointer_bears p' n') l (backpointer_at c n p) (apart-about p n p' n' e p n (rw (eqb_same p, eqb_same n) refl)))

  pub grow-view : {E : List Entry} {R : List Record} {M : ℕ → ℕ → List Message} → View m p n E R (λ q. []) M
      → View (change_backpointers m c.partition (λ l. l ++ backpointer_at c n p ∷ [])) p n E R
      (λ q. one (eqb q c.partition) (backpointer_at c n p)) M
  grow-view v = backs-view m p n c.partition s hq (λ l. l ++ backpointer_at c n p ∷ []) v (λ q. one (eqb q c.partition) (backpointer_at c n p))
      (keep_snoc (backpointer_bears p n) (partition m c.partition).backpointers (backpointer_at c n p) ∙ rw
      (v.backpointers c.partition, eqb_same p, eqb_same n, eqb_same c.partition) refl)
      (λ q' e. rw e refl)

  pub exact_same : (k : Kind) (t : Body) → is_exactly p (message_at c n k t) (backpointer_at c n p) ≡ true
  exact_same k t = rw (eqb_same p, eqb_same n, eqb_same c.object, eqb_same c.directory, name-same c.name) refl

  pub shrink-else : (k : Kind) (t : Body) → Else m (change_backpointers m c.partition (without (is_exactly p (message_at c n k t)))) p n
  shrink-else k t = backs-else m p n c.partition s hq (without (is_exactly p (message_at c n k t)))
      (neat-shrink (partition m c.partition) (is_exactly p (message_at c n k t)))
      (λ p' n' e l. keep-without-other (is_exactly p (message_at c n k t)) (backpointer_bears p' n')
      (λ x f. apart-about p n p' n' e x.parent x.number (exactly-bears p (message_at c n k t) x f)) l)

  pub shrink-view : (k : Kind) (t : Body) (b : Bool) {E : List Entry} {R : List Record} {M : ℕ → ℕ → List Message}
      → View m p n E R (λ q. one (b && eqb q c.partition) (backpointer_at c n p)) M
      → View (change_backpointers m c.partition (without (is_exactly p (message_at c n k t)))) p n E R (λ q. []) M
  unfolding without
  shrink-view k t b v = backs-view m p n c.partition s hq (without (is_exactly p (message_at c n k t))) v (λ q. [])
      (keep-without (backpointer_bears p n) (is_exactly p (message_at c n k t)) (partition m c.partition).backpointers ∙ rw
      (v.backpointers c.partition, eqb_same c.partition) (go b))
      (λ q' e. rw e (off b))
    where
      go : (b : Bool) → without (is_exactly p (message_at c n k t)) (one (b && true) (backpointer_at c n p)) ≡ []
      go true = rw (exact_same k t, without) refl
      go false = refl

      off : (b : Bool) → one (b && false) (backpointer_at c n p) ≡ []
      off true = refl
      off false = refl

module _ (m : Model) (p n : ℕ) (c : Content) (s : Shape m) (h : (partition m p).up ≡ true) (hq : (partition m c.partition).up ≡ true) where
  -- the answer t goes home
  pub say-else : (k : Kind) (t : Body) → giver t c.partition p ≡ p → Else m (send m c.partition p (message_at c n k t)) p n
  say-else k t g = push_else m p n c.partition p s hq h (message_at c n k t) (rw (g, eqb_same p, eqb_same n) refl)

  pub say-view : (k : Kind) (t : Body) → giver t c.partition p ≡ p → {E : List Entry} {R : List Record} {B : ℕ → List Backpointer}
      → View m p n E R B (λ a b. []) → View (send m c.partition p (message_at c n k t)) p n E R B (letters c n p (home k t))
  say-view k t g v = push-view m p n c.partition p s hq h (message_at c n k t) (rw (g, eqb_same p, eqb_same n) refl) v

-- the request, or the answer, was the oldest
module _ (m : Model) (p n : ℕ) (c : Content) (s : Shape m) (h : (partition m p).up ≡ true) (hq : (partition m c.partition).up ≡ true)
    (fi : Fine m c) (k : Kind) (l : List Message) where
  module _ (q : queue m p c.partition ≡ message_at c n k Request ∷ l) where
    pub out-else : Else m (set_queue m p c.partition l) p n
    out-else = pop-else m p n p c.partition s h hq (message_at c n k Request) l q (rw (eqb_same p, eqb_same n) refl)

    pub out-view : {E : List Entry} {R : List Record} {B : ℕ → List Backpointer} → View m p n E R B (letters c n p (out k))
        → View (set_queue m p c.partition l) p n E R B (λ a b. [])
    out-view v = pop-view m p n p c.partition s h hq (message_at c n k Request) l q (rw (eqb_same p, eqb_same n) refl) (letters c n p (out k))
        (message_at c n k Request)
        (rw (eqb_same p, eqb_same c.partition) refl) (λ a' b' e. rw e refl) v

  module _ (t : Body) (g : giver t c.partition p ≡ p) (q : queue m c.partition p ≡ message_at c n k t ∷ l) where
    pub home-else : Else m (set_queue m c.partition p l) p n
    home-else = pop-else m p n c.partition p s hq h (message_at c n k t) l q (rw (g, eqb_same p, eqb_same n) refl)

    pub home-view : {E : List Entry} {R : List Record} {B : ℕ → List Backpointer} → View m p n E R B (letters c n p (home k t))
        → View (set_queue m c.partition p l) p n E R B (λ a b. [])
    home-view v = pop-view m p n c.partition p s hq h (message_at c n k t) l q (rw (g, eqb_same p, eqb_same n) refl) (letters c n p (home k t))
        (message_at c n k t)
        (rw (eqb_same p, eqb_same c.partition) refl) (λ a' b' e. rw e refl) v

-- a refusal changes nothing
pub check-keeps : (P : Model → Type 0) (t : Bool) (k : Refusal) (m : Model) (o : Outcome) → P m → (t ≡ true → P o.model) → P (check t k m o).model
unfolding check
check-keeps P true k m o x f = f refl
check-keeps P false k m o x f = x

-- only up or last changes
pub record Plain (x y : Partition) : Type 0 where
  pub entries : x.entries ≡ y.entries
  pub backpointers : x.backpointers ≡ y.backpointers
  pub records : x.records ≡ y.records
  pub last : y.last ≤ x.last

module _ (m : Model) (p : ℕ) (x : Partition) (e : Plain x (partition m p)) (h : p < length m.partitions) where
  pub plain-view : {p' n : ℕ} {E : List Entry} {R : List Record} {B : ℕ → List Backpointer} {M : ℕ → ℕ → List Message} → View m p' n E R B M
      → View (set_partition m p x) p' n E R B M
  plain-view {p'} {n} v =
      record {
        entries = part_field m p x h (λ (y : Partition). keep (entry_bears n) y.entries) (ap (keep (entry_bears n)) e.entries) p' ∙ v.entries;
        records = part_field m p x h (λ (y : Partition). keep (record_bears n) y.records) (ap (keep (record_bears n)) e.records) p' ∙ v.records;
        backpointers = λ q. part_field m p x h (λ (y : Partition). keep (backpointer_bears p' n) y.backpointers)
            (ap (keep (backpointer_bears p' n)) e.backpointers) q ∙ v.backpointers q;
        messages = λ a b hb. rw (queue-part m p x) (v.messages a b hb);
      }

-- down partitions stay so
pub plain-downs : (m : Model) (p : ℕ) (x : Partition) → p < length m.partitions → x.up ≡ (partition m p).up → x.records ≡ (partition m p).records
    → DownsRest m → DownsRest (set_partition m p x)
plain-downs m p x h u r d q e =
    let y : AtRest m q = d q (sym (part_field m p x h (λ (z : Partition). z.up) u q) ∙ e) in
    record {
      ready = ap (keep unready) (part_field m p x h (λ (z : Partition). z.records) r q) ∙ y.ready;
      from = λ b l. queue-part m p x q b ∙ y.from b l;
      to = λ b l. queue-part m p x b q ∙ y.to b l;
    }

abbrev pub raised : Partition → Partition
raised x = with_last (suc x.last) x

pub raised-plain : (x : Partition) → Plain (raised x) x
raised-plain x = record { entries = refl; backpointers = refl; records = refl; last = omega arith }

-- a record comes where there was none
module _ (m : Model) (p : ℕ) (s : Shape m) (h : (partition m p).up ≡ true) (r : Record) where
  pub grown-else : (Neat (partition m p) → Neat (with_records (partition m p) ((partition m p).records ++ r ∷ [])))
      → Else m (change_records m p (λ l. l ++ r ∷ [])) p r.number
  grown-else w = records-else m p r.number s h (λ l. l ++ r ∷ []) w
      (λ n' t l. keep-snoc-other (record_bears n') l r (num-apart r.number n' t r.number (eqb_same r.number)))

  pub grown-view : {E : List Entry} {B : ℕ → List Backpointer} {M : ℕ → ℕ → List Message}
      → View m p r.number E [] B M → View (change_records m p (λ l. l ++ r ∷ [])) p r.number E (r ∷ []) B M
  grown-view v = records-view m p r.number s h (λ l. l ++ r ∷ []) v (r ∷ [])
      (keep_snoc (record_bears r.number) (partition m p).records r ∙ rw (v.records, eqb_same r.number) refl)

pub raised-claimed : (x : Partition) → claimed (raised x) ≡ claimed x
unfolding claimed
raised-claimed x = refl

pub raised-neat : (x : Partition) → x.last < 4294967295 → Neat x → Neat (raised x)
raised-neat x h n = record
    { names = n.names; keys = n.keys; records = n.records; backpointers = n.backpointers; claimed = rw (raised-claimed x) n.claimed; last = h }
