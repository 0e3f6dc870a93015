-- Every event keeps the tables whole, and so in order.
use mathlib.Core.Bool.{Bool, false, true}
use mathlib.Core.List.{Memᴰ, [], nil≢cons}
use mathlib.Core.Logic.{inl, inr}
use mathlib.Core.Path.{◌∙◌, ◌≡◌, ap, refl, subst, sym}
use Prim.Native.Nat.{◌<◌, ◌≤◌, suc, ℕ}
use native.Mathlib.Nat.{le_refl}
use native.Mathlib.Omega.{arith}
use lib.Dec.{eqb, leb, lit≤}
use lib.ListN.{length}
use borrow.Author.Tests.{eqb-true, leb-true, ltb-true}
use Rattle.lists.specs.Lists.{keep, map_if}
use Rattle.protocol.specs.Answers.{Outcome, accepted}
use Rattle.protocol.specs.Ask.{ask, unlink, unlink_of}
use Rattle.protocol.specs.Bounds.{max_partitions}
use Rattle.protocol.specs.Demands.{is_step}
use Rattle.protocol.specs.Elements.{Create, Kind, Link, Name, Ready, Record, Unlink, adds}
use Rattle.protocol.specs.Events.{advancing, crashing, creating, cutting, delivering, Event, linking, opening, recovering, unlinking, bare}
use Rattle.protocol.specs.Faults.{between, crash, cut, falls_with, lose, open_tables, recover, sent_between, touches}
use Rattle.protocol.specs.Order.{in_order}
use Rattle.protocol.specs.Tables.{Model, Partition, claimed, entry_bears, fresh, fresh_partition, give_number, no_partition, open_record, partition, set_partition, set_up, stands_under, with_up}
use Rattle.lists.proofs.Members.{mem-keep, seen-mem}
use Rattle.lists.proofs.Tests.{and_left, and_right, by_test, eqb_same, no_true}
use Rattle.protocol.proofs.Advances.{advance-moved}
use Rattle.protocol.proofs.Changes.{Plain, check-keeps, grown-view, no_step, plain-downs, plain-view, raised, raised-neat, raised-plain}
use Rattle.protocol.proofs.Content.{AtRest, Blank, Content, DownsRest, Mail, fine-else, letters, record_at, silent, unready}
use Rattle.protocol.proofs.Deliveries.{deliver-moved}
use Rattle.protocol.proofs.Look.{part_field, part-other, part_same, up_in}
use Rattle.protocol.proofs.Losses.{blank-neat, count-lose, crash-down, fresh-blank, fresh-none, fresh-one, fresh-part, fresh-queue, fresh-shape, lose-down, lose-shape, lose-up, lose-view, nil, part-lose, recast}
use Rattle.protocol.proofs.Lost.{Evenly, crash-evenly, cut-evenly, lost-at, relapse}
use Rattle.protocol.proofs.Moves.{Moves}
use Rattle.protocol.proofs.Neat.{Neats, neat-set, neat-stage}
use Rattle.protocol.proofs.Numbers.{Else, View, count-part, queue-part, shape-part}
use Rattle.protocol.proofs.Opened.{ask-cases, unlink-cases}
use Rattle.protocol.proofs.Refusals.{event-fair, fair-kept}
use Rattle.protocol.proofs.Shows.{whole-order}
use Rattle.protocol.proofs.Tells.{order-whole}
use Rattle.protocol.proofs.Whole.{Fit, Sound, Way, Whole, asking, change-whole, fit-else, idle, mail_of, moved-whole, of_entry, recs_of, refit, rests, told}

-- only up or last changes
plain-whole : (m : Model) (p : ℕ) (x : Partition) → Plain x (partition m p) → p < length m.partitions → Neats (set_partition m p x)
    → DownsRest (set_partition m p x) → Whole m → Whole (set_partition m p x)
plain-whole m p x e h ne dn i =
    record {
      shape = shape-part m p x i.shape;
      some = rw (count-part m p x) i.some;
      local = λ p' n. fit-else (count-part m p x) (i.local p' n) (plain-view m p x e h (i.local p' n).has);
      later = λ p' n t. plain-view m p x e h (i.later p' n (by_test (eqb p' p)
          (λ u. let q : p' ≡ p = eqb-true p' p u in let w : x.last < n = rw (q, part_same m p x h) at t in rw q (let l = e.last in omega arith))
          (λ u. rw (part-other m p x h p' u) at t)));
      never = λ p'. plain-view m p x e h (i.never p');
      neat = ne;
      downs = dn;
    }

-- a number is given
given-last : (m : Model) (p : ℕ) → p < length m.partitions → (partition (give_number m p) p).last ≡ suc (partition m p).last
unfolding give_number
given-last m p h = ap (λ (y : Partition). y.last) (part_same m p (raised (partition m p)) h)

given-whole : (m : Model) (p : ℕ) → p < length m.partitions → (partition m p).last < 4294967295 → Whole m → Whole (give_number m p)
unfolding give_number
given-whole m p h l g =
    let x : Partition = raised (partition m p) in
    plain-whole m p x (raised-plain (partition m p)) h (neat-set m p x h (raised-neat (partition m p) l) g.neat)
    (plain-downs m p x h refl refl g.downs) g

ask-whole : (k : Kind) → adds k ≡ true → (m : Model) (p d : ℕ) (t : Name) (q o : ℕ) → Whole m → Whole (ask k m p d t q o).model
ask-whole k a m p d t q o g =
    ask-cases k m p d t q o Whole g λ y.
    let c : Content = record { directory = d; name = t; partition = q; object = o } in
    let n : ℕ = suc (partition m p).last in
    let g₁ : Whole (give_number m p) = given-whole m p y.inside y.last g in
    let f : Else (give_number m p) (open_record (give_number m p) p (record_at c n k Ready)) p n = y.others g.shape in
    change-whole g₁ f
    (record {
      what = c;
      way = rests k Ready;
      entries = [];
      backpointers = λ q. [];
      has = y.has g.shape (g.later p n (le_refl _));
      sound = (fine-else f.count y.fine, refl, refl);
      single = lit≤ tt;
      entries_fine = λ e i. absurd (mathlib.Core.List.Memᴰ.not-nil i);
      backpointers_fine = λ q b i. absurd (mathlib.Core.List.Memᴰ.not-nil i);
    })
    (λ l. let e = f.lasts p in let e' = given-last m p y.inside in omega arith)
    (λ l. omega arith)

no_record : (c : Content) (n : ℕ) (w : Way) → recs_of c n w ≡ [] → mail_of w ≡ silent
no_record c n idle e = refl
no_record c n (rests k s) e = absurd (nil≢cons (sym e))
no_record c n (asking k) e = absurd (nil≢cons (sym e))
no_record c n (told k t) e = absurd (nil≢cons (sym e))

unlink-whole : (m : Model) (p d : ℕ) (t : Name) → Whole m → Whole (unlink m p d t).model
unlink-whole m p d t g =
    unlink-cases m p d t Whole g λ e es u.
    let n : ℕ = e.number in
    let y : Fit m p n = g.local p n in
    let i : Memᴰ e (keep (entry_bears n) (partition m p).entries) = mem-keep (entry_bears n) (partition m p).entries e
    (seen-mem (stands_under d t) (partition m p).entries es e u.found) (eqb_same n) in
    let o : Else m (open_record m p (unlink_of e)) p n = u.others g.shape in
    let silence = no_record y.what n y.way (sym y.has.records ∙ u.unopened) in
    let v : View m p n y.entries [] y.backpointers (λ a b. []) =
    record {
      entries = y.has.entries;
      records = u.unopened;
      backpointers = y.has.backpointers;
      messages = λ a b hb. y.has.messages a b hb ∙ ap
          (λ (l : Mail). letters y.what n p l a b) silence;
    } in
    change-whole g o
    (record {
      what = of_entry e;
      way = rests Unlink Ready;
      entries = y.entries;
      backpointers = y.backpointers;
      has = grown-view m p g.shape u.up (unlink_of e) v;
      sound = (fine-else o.count (y.entries_fine e (rw y.has.entries at i)), refl, refl);
      single = y.single;
      entries_fine = λ e i. fine-else o.count (y.entries_fine e i);
      backpointers_fine = λ q b i. fine-else o.count (y.backpointers_fine q b i);
    })
    (λ z. mathlib.Core.List.Memᴰ.not-nil (rw (g.later p n (rw (o.lasts p) at z)).entries at i))
    (λ z. mathlib.Core.List.Memᴰ.not-nil (rw (let b : Blank m p n = rw z (g.never p) in b).entries at i))

-- a cut or a crash
sound-ready : (m : Model) (c : Content) (w : Way) → Sound m c w → Sound m c (relapse w)
sound-ready m c idle so = tt
sound-ready m c (rests k s) so = (so.0, refl, refl)
sound-ready m c (asking k) so = (so, refl, refl)
sound-ready m c (told k t) so = (so.0, refl, refl)

lose-whole : (f : ℕ → Record → Bool) (g : ℕ → ℕ → Bool) → Evenly f g → (m : Model) → Whole m → Whole (lose f g m)
unfolding map_if
lose-whole f g v m i =
    record {
      shape = lose-shape f g m i.shape;
      some = rw (count-lose f g m) i.some;
      local = λ p n. let y : Fit m p n = i.local p n in
          lost-at f g v m p n y.what y.entries y.backpointers (Fit (lose f g m) p n) (Sound m y.what) (sound-ready m y.what)
          (λ w so u. refit (count-lose f g m) y w so u) y.way y.sound y.has;
      later = λ p n t. recast (lose-view f g m (i.later p n (rw (part-lose f g m p) at t))) refl (λ a b. nil (g a b));
      never = λ p. recast (lose-view f g m (i.never p)) refl (λ a b. nil (g a b));
      neat = λ q. rw (part-lose f g m q) (neat-stage (partition m q) (f q) Ready (i.neat q));
      downs = λ p e. lose-down f g m p (i.downs p (sym (lose-up f g m p) ∙ e));
    }

-- only whether it is up changes
up-whole : (m : Model) (p : ℕ) (u : Bool) → p < length m.partitions → (u ≡ false → AtRest m p) → Whole m → Whole (set_up m p u)
unfolding set_up claimed
up-whole m p u h d g =
    let x : Partition = with_up u (partition m p) in
    plain-whole m p x (record { entries = refl; backpointers = refl; records = refl; last = le_refl _ }) h
    (neat-set m p x h (λ n.
    record { names = n.names; keys = n.keys; records = n.records; backpointers = n.backpointers; claimed = n.claimed; last = n.last })
    g.neat)
    (λ q e.
    let y : AtRest m q = by_test (eqb q p)
    (λ t. let w : q ≡ p = eqb-true q p t in rw w (d (sym (ap (λ (z : Partition). z.up) (part_same m p x h)) ∙ (rw w at e))))
    (λ t. g.downs q (rw (part-other m p x h q t) at e)) in
    record {
      ready = ap (keep unready) (part_field m p x h (λ (z : Partition). z.records) refl q) ∙ y.ready;
      from = λ b l. queue-part m p x q b ∙ y.from b l;
      to = λ b l. queue-part m p x b q ∙ y.to b l;
    }) g

cut-whole : (m : Model) (a b : ℕ) → Whole m → Whole (cut m a b).model
unfolding cut
cut-whole m a b i =
    check-keeps Whole _ _ m _ i λ e₁. check-keeps Whole _ _ m _ i λ e₂. check-keeps Whole _ _ m _ i λ e₃. lose-whole (sent_between a b) (between a b)
    (cut-evenly a b) m i

crash-whole : (m : Model) (p : ℕ) → Whole m → Whole (crash m p).model
unfolding crash
crash-whole m p i =
    check-keeps Whole _ _ m _ i λ e₁. check-keeps Whole _ _ m _ i λ e₂.
    up-whole _ p false (rw (count-lose (falls_with p) (touches p) m) (up_in m p e₂)) (λ e. crash-down m p)
    (lose-whole (falls_with p) (touches p) (crash-evenly p) m i)

recover-whole : (m : Model) (p : ℕ) → Whole m → Whole (recover m p).model
unfolding recover
recover-whole m p i = check-keeps Whole _ _ m _ i λ e₁. check-keeps Whole _ _ m _ i λ e₂. up-whole m p true (ltb-true _ _ e₁) (λ e. no_true refl e) i

abbrev none-such : Content
none-such = record { directory = 0; name = record { len = 0; bytes = [] }; partition = 0; object = 0 }

pub fresh-whole : (k : ℕ) → 1 ≤ k → k ≤ max_partitions → Whole (fresh k)
unfolding fresh_partition no_partition keep
fresh-whole k h₀ h =
    record {
      shape = fresh-shape k h;
      some = fresh-one k h₀;
      local = λ p n. record {
        what = none-such;
        way = idle;
        entries = [];
        backpointers = λ q. [];
        has = fresh-blank k p n;
        sound = tt;
        single = lit≤ tt;
        entries_fine = λ e i. absurd (mathlib.Core.List.Memᴰ.not-nil i);
        backpointers_fine = λ q b i. absurd (mathlib.Core.List.Memᴰ.not-nil i);
      };
      later = λ p n t. fresh-blank k p n;
      never = λ p. fresh-blank k p 0;
      neat = λ q. elim (fresh-part k q) [ inl e ↦ rw e (blank-neat true) | inr e ↦ rw e (blank-neat false) ];
      downs = λ p e. record
          { ready = fresh-none k (λ x. keep unready x.records) [] refl refl p; from = λ q h. fresh-queue k p q; to = λ q h. fresh-queue k q p };
    }

-- each settling step moves one number
pub step-moves : (e : Event) (m : Model) (w : Whole m) → is_step e ≡ true → accepted (bare e m) ≡ true → Moves m (bare e m).model w
unfolding bare
step-moves (linking p d s q o) m w t a = no_step t
step-moves (creating p d s q o) m w t a = no_step t
step-moves (unlinking p d s) m w t a = no_step t
step-moves (advancing p n) m w t a = record { giver = p; number = n; moved = advance-moved m p n w.shape (w.local p n) a }
step-moves (delivering s r) m w t a = deliver-moved m s r w a
step-moves (cutting a b) m w t e = no_step t
step-moves (crashing p) m w t a = no_step t
step-moves (recovering p) m w t a = no_step t
step-moves (opening k) m w t a = no_step t

-- a refused step changes nothing
step-whole : (e : Event) (m : Model) → Whole m → is_step e ≡ true → Whole (bare e m).model
step-whole e m w t =
    by_test (accepted (bare e m))
    (λ a. moved-whole w (step-moves e m w t a).moved)
    (λ a. subst Whole (sym (ap (λ (o : Outcome). o.model) (fair-kept (event-fair m e w) a))) w)

open-whole : (m : Model) (k : ℕ) → Whole m → Whole (open_tables m k).model
unfolding open_tables
open-whole m k w = check-keeps Whole _ _ m _ w λ e. fresh-whole k (leb-true 1 k (and_left _ _ e)) (leb-true k max_partitions (and_right (leb 1 k) _ e))

pub event-whole : (e : Event) (m : Model) → Whole m → Whole (bare e m).model
unfolding bare
event-whole (linking p d s q o) m w = ask-whole Link refl m p d s q o w
event-whole (creating p d s q o) m w = ask-whole Create refl m p d s q o w
event-whole (unlinking p d s) m w = unlink-whole m p d s w
event-whole (advancing p n) m w = step-whole (advancing p n) m w refl
event-whole (delivering s r) m w = step-whole (delivering s r) m w refl
event-whole (cutting a b) m w = cut-whole m a b w
event-whole (crashing p) m w = crash-whole m p w
event-whole (recovering p) m w = recover-whole m p w
event-whole (opening k) m w = open-whole m k w

-- the order is kept, from any tables in order
pub keeps-order : (e : Event) (m : Model) → in_order m ≡ true → in_order (bare e m).model ≡ true
keeps-order e m o = whole-order _ (event-whole e m (order-whole m o))
