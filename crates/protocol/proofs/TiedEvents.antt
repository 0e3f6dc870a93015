-- Every other event keeps the ties.
use mathlib.Core.Bool.{Bool, false, true}
use mathlib.Core.List.{[], ◌∷◌, head-eq_of_cons-eq, nil≢cons}
use mathlib.Core.Path.{◌∙◌, ◌≡◌, ap, refl, sym}
use Prim.Native.Nat.{◌<◌, ◌≤◌, suc, ℕ}
use native.Mathlib.Nat.{le_refl}
use lib.Dec.{lit<}
use lib.ListN.{length}
use borrow.Author.Tests.{ltb-true}
use Rattle.lists.specs.Lists.{all, every, keep, one}
use Rattle.names.specs.Names.{good_name}
use Rattle.protocol.specs.Ask.{ask, unlink, unlink_of}
use Rattle.protocol.specs.Elements.{Create, Entry, Kind, Link, Name, Ready, Record, Unlink}
use Rattle.protocol.specs.Faults.{between, crash, cut, falls_with, lose, recover, sent_between, touches}
use Rattle.protocol.specs.Tables.{Model, Partition, entry_bears, fresh, give_number, open_record, partition, set_partition, set_up, stands_under, with_up}
use Rattle.lists.proofs.Keep.{alone, one-le}
use Rattle.lists.proofs.Tests.{eqb_same}
use Rattle.protocol.proofs.Changes.{Plain, check-keeps, grown-view, plain-view, raised, raised-plain}
use Rattle.protocol.proofs.Content.{Blank, Content, entry_at, fine-else}
use Rattle.protocol.proofs.Look.{Shape, up_in}
use Rattle.protocol.proofs.Losses.{count-lose, fresh-blank, fresh-one}
use Rattle.protocol.proofs.Lost.{Evenly, crash-evenly, cut-evenly, lost-at, relapse}
use Rattle.protocol.proofs.Numbers.{Else, View, count-part}
use Rattle.protocol.proofs.Opened.{ask-cases, unlink-cases}
use Rattle.protocol.proofs.Ties.{Has, Tie, Ties, backs_of, change-ties, entry-back, rule}
use Rattle.protocol.proofs.Whole.{Way, asking, idle, recs_of, rests, told}

-- only up or last changes
plain-ties : (m : Model) (p : ℕ) (x : Partition) → Plain x (partition m p) → p < length m.partitions → Ties m → Ties (set_partition m p x)
plain-ties m p x e h i p' n =
    let y : Tie m p' n = i p' n in
    record {
      what = y.what;
      way = y.way;
      entry = y.entry;
      back = y.back;
      fine = fine-else (count-part m p x) y.fine;
      rule = y.rule;
      has =
          plain-view m p x e h y.has;
    }

given-ties : (m : Model) (p : ℕ) → p < length m.partitions → Ties m → Ties (give_number m p)
unfolding give_number
given-ties m p h g = plain-ties m p (raised (partition m p)) (raised-plain (partition m p)) h g

rule-ready : (k : Kind) → rule (rests k Ready) false false ≡ true
rule-ready Link = refl
rule-ready Create = refl
rule-ready Unlink = refl

pub ask-ties : (k : Kind) (m : Model) (p d : ℕ) (t : Name) (q o : ℕ) → Shape m → Blank m p (suc (partition m p).last) → Ties m
    → Ties (ask k m p d t q o).model
ask-ties k m p d t q o s bl g =
    ask-cases k m p d t q o Ties g λ y.
    let f = y.others s in
    change-ties (given-ties m p y.inside g)
    (record {
      others = f;
      to = record {
        what = record { directory = d; name = t; partition = q; object = o };
        way = rests k Ready;
        entry = false;
        back = false;
        fine = fine-else f.count y.fine;
        rule = rule-ready k;
        has = y.has s bl;
      };
    })

-- an entry without a record: the number rests
settled : (m : Model) (p n : ℕ) (e : Entry) (c : Content) (w : Way) (t st : Bool) → rule w t st ≡ true → Has m p n c w t st
    → one t (entry_at c n) ≡ e ∷ [] → recs_of c n w ≡ []
    → (e ≡ entry_at c n) × (st ≡ true) × View m p n (entry_at c n ∷ []) [] (backs_of c n p st) (λ a b. [])
settled m p n e c idle true st r v a b = (head-eq_of_cons-eq (sym a), r, v)
settled m p n e c idle false st r v a b = absurd (nil≢cons a)
settled m p n e c (rests k s) t st r v a b = absurd (nil≢cons (sym b))
settled m p n e c (asking k) t st r v a b = absurd (nil≢cons (sym b))
settled m p n e c (told k s) t st r v a b = absurd (nil≢cons (sym b))

pub unlink-ties : (m : Model) (p d : ℕ) (t : Name) → Shape m → Ties m → Ties (unlink m p d t).model
unlink-ties m p d t s g =
    unlink-cases m p d t Ties g λ e es u.
    let n : ℕ = e.number in
    let x : Tie m p n = g p n in
    let is : keep (entry_bears n) (partition m p).entries ≡ e ∷ [] =
    alone (stands_under d t) (entry_bears n) (partition m p).entries e es u.found (eqb_same n)
    (rw x.has.entries (one-le x.entry (entry_at x.what n))) in
    let z = settled m p n e x.what x.way x.entry x.back x.rule x.has (sym x.has.entries ∙ is)
    (sym x.has.records ∙ u.unopened) in
    let o : Else m (open_record m p (unlink_of e)) p n = u.others s in
    let v : View (open_record m p (unlink_of e)) p n (entry_at x.what n ∷ []) (unlink_of e ∷ []) (backs_of x.what n p x.back) (λ a b. []) =
    grown-view m p s u.up (unlink_of e) z.2 in
    change-ties g
    (record {
      others = o;
      to = record {
        what = x.what;
        way = rests Unlink Ready;
        entry = true;
        back = x.back;
        fine = fine-else o.count x.fine;
        rule = z.1;
        has = record {
          entries = v.entries;
          records = v.records ∙ ap (λ (y : Entry). unlink_of y ∷ []) z.0;
          backpointers =
              v.backpointers;
          messages = v.messages;
        };
      };
    })

-- back to ready
ready-any : (k : Kind) (e st : Bool) → (e ≡ true → st ≡ true) → rule (rests k Ready) e st ≡ true
ready-any Link true st r = r refl
ready-any Link false st r = refl
ready-any Create true st r = r refl
ready-any Create false st r = refl
ready-any Unlink true st r = r refl
ready-any Unlink false st r = refl

ready-ties : (w : Way) (e st : Bool) → rule w e st ≡ true → rule (relapse w) e st ≡ true
ready-ties idle e st r = r
ready-ties (rests k g) e st r = ready-any k e st (λ t. entry-back (rests k g) st (rw t at r))
ready-ties (asking k) e st r = ready-any k e st (λ t. entry-back (asking k) st (rw t at r))
ready-ties (told k t) e st r = ready-any k e st (λ u. entry-back (told k t) st (rw u at r))

lose-ties : (f : ℕ → Record → Bool) (g : ℕ → ℕ → Bool) → Evenly f g → (m : Model) → Ties m → Ties (lose f g m)
lose-ties f g v m i p n =
    let y : Tie m p n = i p n in
    lost-at f g v m p n y.what (one y.entry (entry_at y.what n)) (backs_of y.what n p y.back) (Tie (lose f g m) p n)
    (λ w. rule w y.entry y.back ≡ true)
    (λ w r. ready-ties w y.entry y.back r)
    (λ w r u. record { what = y.what; way = w; entry = y.entry; back = y.back; fine = fine-else (count-lose f g m) y.fine; rule = r; has = u })
    y.way y.rule y.has

up-ties : (m : Model) (p : ℕ) (u : Bool) → p < length m.partitions → Ties m → Ties (set_up m p u)
unfolding set_up
up-ties m p u h i = plain-ties m p (with_up u (partition m p)) (record { entries = refl; backpointers = refl; records = refl; last = le_refl _ }) h i

pub cut-ties : (m : Model) (a b : ℕ) → Ties m → Ties (cut m a b).model
unfolding cut
cut-ties m a b i =
    check-keeps Ties _ _ m _ i λ e₁. check-keeps Ties _ _ m _ i λ e₂. check-keeps Ties _ _ m _ i λ e₃. lose-ties (sent_between a b) (between a b)
    (cut-evenly a b) m i

pub crash-ties : (m : Model) (p : ℕ) → Ties m → Ties (crash m p).model
unfolding crash
crash-ties m p i =
    check-keeps Ties _ _ m _ i λ e₁. check-keeps Ties _ _ m _ i λ e₂.
    up-ties _ p false (rw (count-lose (falls_with p) (touches p) m) (up_in m p e₂)) (lose-ties (falls_with p) (touches p) (crash-evenly p) m i)

pub recover-ties : (m : Model) (p : ℕ) → Ties m → Ties (recover m p).model
unfolding recover
recover-ties m p i = check-keeps Ties _ _ m _ i λ e₁. check-keeps Ties _ _ m _ i λ e₂. up-ties m p true (ltb-true _ _ e₁) i

abbrev some_name : Name
some_name = record { len = 1; bytes = 97 ∷ 0 ∷ 0 ∷ 0 ∷ 0 ∷ 0 ∷ 0 ∷ 0 ∷ [] }

some-ok : good_name some_name ≡ true
unfolding good_name every all
some-ok = refl

pub fresh-ties : (k : ℕ) → 1 ≤ k → Ties (fresh k)
fresh-ties k h p n =
    record {
      what = record { directory = 0; name = some_name; partition = 0; object = 0 };
      way = idle;
      entry = false;
      back = false;
      fine =
          record { partition = fresh-one k h; directory = lit< tt; object = lit< tt; name = some-ok };
      rule = refl;
      has = fresh-blank k p n;
    }
