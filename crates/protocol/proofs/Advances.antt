-- An accepted advance moves its record's number, and takes from its weight.
use mathlib.Core.Bool.{Bool, false, true}
use mathlib.Core.List.Memᴰ
use mathlib.Core.List.{List, Memᴰ, [], ◌∷◌}
use mathlib.Core.Path.{◌∙◌, ◌≡◌, ap, refl, subst, sym}
use Prim.Native.Nat.{◌<◌, ◌≤◌, ℕ}
use lib.Dec.{lit<, lit≤}
use lib.ListN.{length}
use Rattle.lists.specs.Lists.{is_some, keep}
use Rattle.protocol.specs.Advance.{advance, advance_found, next, next_of, next_to_add, next_to_remove, perform}
use Rattle.protocol.specs.Answers.{Outcome, accepted, check}
use Rattle.protocol.specs.Elements.{Backpointer, Cleared, Create, Enters, Entry, Held, Kind, Link, Next, Ready, Record, RecordSent, Refused, Sends, Sent, Stage, Stays, Turns, Unlink, adds}
use Rattle.protocol.specs.Tables.{Model, close_record, is_partition, partition, record_bears, stands_under, turned}
use Rattle.lists.proofs.Tests.{by_test, no_true}
use Rattle.protocol.proofs.Changes.{alter-else, alter-view, close-else, close-view, enter-else, enter-view, leave-else, leave-view, no_step, sent, sent-else, sent-view}
use Rattle.protocol.proofs.Content.{Content, Fine, entry_at, letters, record_at}
use Rattle.protocol.proofs.Look.{Shape}
use Rattle.protocol.proofs.Moves.{move}
use Rattle.protocol.proofs.Neat.{neat-enter, neat-turn}
use Rattle.protocol.proofs.Numbers.{View}
use Rattle.protocol.proofs.Whole.{Fit, Moved, Sound, Way, asking, idle, load, mail_of, of_backpointer, of_entry, or_more, recs_of, rest_add, rest_unlink, rests, told, weigh}

weigh-rests : (k : Kind) → adds k ≡ true → (E : List Entry) (s : Stage) → weigh E (rests k s) ≡ rest_add E s
weigh-rests Link e E s = refl
weigh-rests Create e E s = refl
weigh-rests Unlink e E s = no_true e refl

weigh-asking : (k : Kind) → adds k ≡ true → (E : List Entry) → weigh E (asking k) ≡ or_more E 7 3
weigh-asking Link e E = refl
weigh-asking Create e E = refl
weigh-asking Unlink e E = no_true e refl

-- what the tables hold of the number: its entries E, its record of the content c, its back-pointers B; T stands under its name
module _ (m : Model) (p n : ℕ) (c : Content) (s : Shape m) (h : (partition m p).up ≡ true) (B : ℕ → List Backpointer)
    (bf : (q : ℕ) (b : Backpointer) → Memᴰ b (B q) → Fine m (of_backpointer q b))
    (T : List Entry) (under : keep (stands_under c.directory c.name) (partition m p).entries ≡ T) where
  no-ent : (e : Entry) → Memᴰ e [] → Fine m (of_entry e)
  no-ent e i = absurd (Memᴰ.not-nil i)

  module _ (fi : Fine m c) where
    -- a ready record without an entry is sent
    send-moved : (k : Kind) (w : ℕ) → View m p n [] (record_at c n k Ready ∷ []) B (λ a b. []) → weigh [] (asking k) < w
        → accepted (perform m p (record_at c n k Ready) Sends) ≡ true → Moved m (perform m p (record_at c n k Ready) Sends).model p n w
    unfolding perform check sent
    send-moved k w v l e =
        by_test (partition m c.partition).up
        (λ t. rw (t, perform, check)
        (move m p n c s h B bf [] (asking k) (sent-else m p n c s h fi k t) (sent-view m p n c s h fi k t v) fi (lit≤ tt) no-ent l))
        (λ t. no_step (rw t at e))

    enter-moved : (k : Kind) → adds k ≡ true → T ≡ [] → View m p n [] (record_at c n k Held ∷ []) B (λ a b. [])
        → Moved m (perform m p (record_at c n k Held) Enters).model p n 5
    unfolding perform
    enter-moved k a e v =
        move m p n c s h B bf (entry_at c n ∷ []) (rests k Held)
        (enter-else m p n s h (entry_at c n) refl
        (neat-enter (partition m p) (entry_at c n) (record_at c n k Held) (under ∙ e) v.entries v.records refl a))
        (enter-view m p n s h (entry_at c n) refl v) (fi, a, refl) (lit≤ tt)
        (λ e i. subst (λ (y : Entry). Fine m (of_entry y)) (sym (Memᴰ.eq_of_singleton i)) fi)
        (rw (weigh-rests k a (entry_at c n ∷ []) Held) (lit< tt))

    turn_moved : (k : Kind) → View m p n [] (record_at c n k Held ∷ []) B (λ a b. []) → Moved m (perform m p (record_at c n k Held) Turns).model p n 5
    unfolding perform
    turn_moved k v =
        move m p n c s h B bf [] (rests Unlink Ready) (alter-else m p n s h turned (λ r. refl) (neat-turn (partition m p) (record_bears n)))
        (alter-view m p n s h turned (λ r. refl) v) (fi, refl, refl) (lit≤ tt) no-ent (lit< tt)

  close-moved : (E : List Entry) (r : Record) → length E ≤ 1 → ((e : Entry) → Memᴰ e E → Fine m (of_entry e))
      → View m p n E (r ∷ []) B (λ a b. []) → Moved m (close_record m p n) p n 1
  close-moved E r si ef v = move m p n c s h B bf E idle (close-else m p n s h) (close-view m p n s h v) tt si ef (lit< tt)

  -- by entry and stage
  module _ (E : List Entry) (si : length E ≤ 1) (ef : (e : Entry) → Memᴰ e E → Fine m (of_entry e)) (fi : Fine m c) where
    abbrev Does : Kind → Stage → List Entry → Next → ℕ → Type 0
    Does k g E x w = View m p n E (record_at c n k g ∷ []) B (λ a b. []) → accepted (perform m p (record_at c n k g) x) ≡ true → Moved m
        (perform m p (record_at c n k g) x).model p n w

    held_moved : (k : Kind) → adds k ≡ true → (T' : List Entry) → T ≡ T' → Does k Held [] (next_to_add Held false (is_some T')) 5
    held_moved k a [] q v e = enter-moved fi k a q v
    held_moved k a (x ∷ l) q v e = turn_moved fi k v

    add-moved : (k : Kind) → adds k ≡ true → (E' : List Entry) → E ≡ E' → (g : Stage)
        → Does k g E' (next_to_add g (is_some E') (is_some T)) (rest_add E' g)
    unfolding perform
    add-moved k a [] q Ready v e = send-moved fi k 8 v (rw (weigh-asking k a []) (lit< tt)) e
    add-moved k a [] q Sent v e = no_step e
    add-moved k a [] q Held v e = held_moved k a T refl v e
    add-moved k a [] q (Refused x) v e = close-moved [] _ (lit≤ tt) no-ent v
    add-moved k a [] q Cleared v e = no_step e
    add-moved k a (y ∷ l) q Ready v e = close-moved (y ∷ l) _ (rw q at si) (rw q at ef) v
    add-moved k a (y ∷ l) q Sent v e = no_step e
    add-moved k a (y ∷ l) q Held v e = close-moved (y ∷ l) _ (rw q at si) (rw q at ef) v
    add-moved k a (y ∷ l) q (Refused x) v e = close-moved (y ∷ l) _ (rw q at si) (rw q at ef) v
    add-moved k a (y ∷ l) q Cleared v e = no_step e

    remove-moved : (E' : List Entry) → E ≡ E' → (g : Stage) → Does Unlink g E' (next_to_remove g (is_some E')) (rest_unlink E' g)
    unfolding perform
    remove-moved [] q Ready v e = send-moved fi Unlink 4 v (lit< tt) e
    remove-moved (y ∷ l) q Ready v e =
        move m p n c s h B bf [] (rests Unlink Ready) (leave-else m p n s h (record_at c n Unlink Ready) v.records refl) (leave-view m p n s h v)
        (fi, refl, refl) (lit≤ tt) no-ent (lit< tt)
    remove-moved [] q Sent v e = no_step e
    remove-moved [] q Held v e = no_step e
    remove-moved [] q (Refused x) v e = no_step e
    remove-moved [] q Cleared v e = close-moved [] _ (lit≤ tt) no-ent v
    remove-moved (y ∷ l) q Sent v e = no_step e
    remove-moved (y ∷ l) q Held v e = no_step e
    remove-moved (y ∷ l) q (Refused x) v e = no_step e
    remove-moved (y ∷ l) q Cleared v e = close-moved (y ∷ l) _ (rw q at si) (rw q at ef) v

    rest-moved : (k : Kind) (g : Stage) → Does k g E (next_of k g (is_some E) (is_some T)) (weigh E (rests k g))
    rest-moved Link g v e = add-moved Link refl E refl g v e
    rest-moved Create g v e = add-moved Create refl E refl g v e
    rest-moved Unlink g v e = remove-moved E refl g v e

-- a sent record does not advance
sent-next : (k : Kind) (entered taken : Bool) → next_of k Sent entered taken ≡ Stays RecordSent
sent-next Link entered taken = refl
sent-next Create entered taken = refl
sent-next Unlink entered taken = refl

pub sent-stays : {G : Type 0} (m : Model) (p : ℕ) (r : Record) (k : Kind) (entered taken : Bool)
    → accepted (perform m p r (next_of k Sent entered taken)) ≡ true → G
unfolding perform
sent-stays m p r k entered taken e = no_step (rw (sent-next k entered taken) at e)

-- the record that bears the number, by its way
module _ (m : Model) (p n : ℕ) (s : Shape m) (h : (partition m p).up ≡ true) (y : Fit m p n) where
  abbrev step : Way → Outcome
  step w = advance_found m p (recs_of y.what n w)

  advance-in : (w : Way) → Sound m y.what w → View m p n y.entries (recs_of y.what n w) y.backpointers (letters y.what n p (mail_of w))
      → accepted (step w) ≡ true → Moved m (step w).model p n (weigh y.entries w)
  unfolding next
  advance-in idle so v e = no_step e
  advance-in (rests k g) so v e =
      rw v.entries
      (rest-moved m p n y.what s h y.backpointers y.backpointers_fine
      (keep (stands_under y.what.directory y.what.name) (partition m p).entries) refl
      y.entries y.single y.entries_fine so.0 k g v (rw v.entries at e))
  advance-in (asking k) so v e = sent-stays m p _ k _ _ e
  advance-in (told k t) so v e = sent-stays m p _ k _ _ e

-- what an accepted advance shows, where G is to be shown of the tables after it
pub advance-cases : (m : Model) (p n : ℕ) (R : List Record) → keep (record_bears n) (partition m p).records ≡ R → (G : Model → Type 0)
    → ((partition m p).up ≡ true → accepted (advance_found m p R) ≡ true → G (advance_found m p R).model)
    → accepted (advance m p n) ≡ true → G (advance m p n).model
unfolding advance check
advance-cases m p n R r G f e =
    by_test (is_partition m p)
    (λ w. by_test (partition m p).up
    (λ t.
    let q : advance m p n ≡ advance_found m p R = rw (w, t, r, advance, check) in
    rw q (f t (ap accepted (sym q) ∙ e)))
    (λ t. no_step (rw (w, t) at e)))
    (λ w. no_step (rw w at e))

pub advance-moved : (m : Model) (p n : ℕ) → Shape m → (y : Fit m p n) → accepted (advance m p n) ≡ true → Moved m (advance m p n).model p n (load y)
advance-moved m p n s y =
    advance-cases m p n (recs_of y.what n y.way) y.has.records (λ m'. Moved m m' p n (load y))
    (λ h e. advance-in m p n s h y y.way y.sound y.has e)
