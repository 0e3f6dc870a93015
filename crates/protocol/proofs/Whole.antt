-- Tables in order, number by number: each number of each partition stands in one way.
use mathlib.Core.Bool.{Bool, false, true}
use mathlib.Core.List.{List, Memᴰ, [], ◌∷◌}
use mathlib.Core.Path.{◌∙◌, ◌≡◌, ap, refl, sym}
use Prim.Native.Nat.{◌*◌, ◌<◌, ◌≤◌, ℕ}
use native.Mathlib.Omega.{arith}
use lib.Dec.{eqb, lit≤}
use lib.ListN.{length}
use borrow.Author.Tests.{eqb-true}
use Rattle.lists.specs.Lists.{pick}
use Rattle.protocol.specs.Elements.{Backpointer, Body, Cleared, Create, Entry, Held, Kind, Link, Ready, Record, Refused, Sent, Stage, Unlink, body_fits, is_request, is_sent, stage_fits}
use Rattle.protocol.specs.Tables.{Model, partition}
use Rattle.lists.proofs.Tests.{and_left, and_right, by_test}
use Rattle.protocol.proofs.Content.{Blank, Content, DownsRest, Fine, Mail, else-downs, else-view, fine-else, home, letters, out, record_at, silent}
use Rattle.protocol.proofs.Look.{Shape}
use Rattle.protocol.proofs.Neat.{Neats}
use Rattle.protocol.proofs.Numbers.{Else, View, here}

-- no record; a record with nothing under way; one whose request, or whose answer, is under way
pub data Way : Type 0 where
  idle : Way
  rests : Kind → Stage → Way
  asking : Kind → Way
  told : Kind → Body → Way

abbrev pub recs_of : Content → ℕ → Way → List Record
recs_of c n idle = []
recs_of c n (rests k s) = record_at c n k s ∷ []
recs_of c n (asking k) = record_at c n k Sent ∷ []
recs_of c n (told k t) = record_at c n k Sent ∷ []

abbrev pub mail_of : Way → Mail
mail_of idle = silent
mail_of (rests k s) = silent
mail_of (asking k) = out k
mail_of (told k t) = home k t

-- the record is in range, and the stage or the answer is one of its kind
abbrev pub Sound : Model → Content → Way → Type 0
Sound m c idle = Unit {0}
Sound m c (rests k s) = Fine m c × (stage_fits k s ≡ true) × (is_sent s ≡ false)
Sound m c (asking k) = Fine m c
Sound m c (told k t) = Fine m c × (body_fits k t ≡ true) × (is_request t ≡ false)

abbrev pub of_entry : Entry → Content
of_entry e = record { directory = e.directory; name = e.name; partition = e.partition; object = e.object }

abbrev pub of_backpointer : ℕ → Backpointer → Content
of_backpointer q b = record { directory = b.directory; name = b.name; partition = q; object = b.object }

abbrev pub of_record : Record → Content
of_record r = record { directory = r.directory; name = r.name; partition = r.partition; object = r.object }

pub record Fit (m : Model) (p n : ℕ) : Type 0 where
  pub what : Content
  pub way : Way
  pub entries : List Entry
  pub backpointers : ℕ → List Backpointer
  pub has : View m p n entries (recs_of what n way) backpointers (letters what n p (mail_of way))
  pub sound : Sound m what way
  pub single : length entries ≤ 1
  pub entries_fine : (e : Entry) → Memᴰ e entries → Fine m (of_entry e)
  pub backpointers_fine : (q : ℕ) (b : Backpointer) → Memᴰ b (backpointers q) → Fine m (of_backpointer q b)

pub record Whole (m : Model) : Type 0 where
  pub shape : Shape m
  pub some : 1 ≤ length m.partitions
  pub local : (p n : ℕ) → Fit m p n
  pub later : (p n : ℕ) → (partition m p).last < n → Blank m p n
  pub never : (p : ℕ) → Blank m p 0
  pub neat : Neats m
  pub downs : DownsRest m

pub sound-else : (m m' : Model) (c : Content) (w : Way) → length m'.partitions ≡ length m.partitions → Sound m c w → Sound m' c w
sound-else m m' c idle e s = tt
sound-else m m' c (rests k t) e s = (fine-else e s.0, s.1, s.2)
sound-else m m' c (asking k) e s = fine-else e s
sound-else m m' c (told k t) e s = (fine-else e s.0, s.1, s.2)

-- the same entries and back-pointers, in tables of the same count
pub refit : {m m' : Model} {p n : ℕ} → length m'.partitions ≡ length m.partitions → (y : Fit m p n) (w : Way) → Sound m y.what w
    → View m' p n y.entries (recs_of y.what n w) y.backpointers (letters y.what n p (mail_of w)) → Fit m' p n
refit {m} {m'} e y w so v =
    record {
      what = y.what;
      way = w;
      entries = y.entries;
      backpointers = y.backpointers;
      has = v;
      sound = sound-else m m' y.what w e so;
      single = y.single;
      entries_fine = λ x i. fine-else e (y.entries_fine x i);
      backpointers_fine = λ q b i. fine-else e (y.backpointers_fine q b i);
    }

-- another number, unchanged
pub fit-else : {m m' : Model} {p n : ℕ} → length m'.partitions ≡ length m.partitions → (y : Fit m p n)
    → View m' p n y.entries (recs_of y.what n y.way) y.backpointers (letters y.what n p (mail_of y.way)) → Fit m' p n
unfolding refit
fit-else e y v = refit e y y.way y.sound v

-- as many steps as the number still takes, at most
abbrev pub rest_add : List Entry → Stage → ℕ
rest_add [] Ready = 8
rest_add [] Sent = 1
rest_add [] Held = 5
rest_add [] (Refused x) = 1
rest_add [] Cleared = 1
rest_add (e ∷ es) s = 1

abbrev pub rest_unlink : List Entry → Stage → ℕ
rest_unlink [] Ready = 4
rest_unlink (e ∷ es) Ready = 5
rest_unlink es Sent = 1
rest_unlink es Held = 1
rest_unlink es (Refused x) = 1
rest_unlink es Cleared = 1

abbrev pub or_more : List Entry → ℕ → ℕ → ℕ
or_more [] a b = a
or_more (e ∷ es) a b = b

abbrev pub weigh : List Entry → Way → ℕ
weigh es idle = 0
weigh es (rests Link s) = rest_add es s
weigh es (rests Create s) = rest_add es s
weigh es (rests Unlink s) = rest_unlink es s
weigh es (asking Link) = or_more es 7 3
weigh es (asking Create) = or_more es 7 3
weigh es (asking Unlink) = 3
weigh es (told Link t) = or_more es 6 2
weigh es (told Create t) = or_more es 6 2
weigh es (told Unlink t) = 2

abbrev pub load : {m : Model} {p n : ℕ} → Fit m p n → ℕ
load y = weigh y.entries y.way

-- only p's number n changed, and it weighs less
pub record Moved (m m' : Model) (p n w : ℕ) : Type 0 where
  pub others : Else m m' p n
  pub to : Fit m' p n
  pub less : load to < w

record Lies (m : Model) (p n w : ℕ) : Type 0 where
  fit : Fit m p n
  is : load fit ≡ w

fit_at : {m m' : Model} {p n : ℕ} → Else m m' p n → (x : Fit m' p n) (p' n' : ℕ) (y : Fit m p' n') (b : Bool) → here p n p' n' ≡ b
    → Lies m' p' n' (pick b (load x) (load y))
unfolding fit-else refit
fit_at {m'} {p} {n} o x p' n' y true e = rw (eqb-true n' n (and_right (eqb p' p) _ e), eqb-true p' p (and_left _ _ e)) (record { fit = x; is = refl })
fit_at o x p' n' y false e = record { fit = fit-else o.count y (else-view o e y.has); is = refl }

-- one number changes
pub change-whole : {m m' : Model} {p n : ℕ} → Whole m → Else m m' p n → Fit m' p n → ((partition m' p).last < n → ⊥) → (n ≡ 0 → ⊥) → Whole m'
change-whole {m} {m'} {p} {n} i o x w z =
    record {
      shape = o.shape;
      some = rw o.count i.some;
      local = λ p' n'. (fit_at o x p' n' (i.local p' n') (here p n p' n') refl).fit;
      later = λ p' n' t.
          by_test (here p n p' n')
          (λ e. absurd (w (rw (eqb-true n' n (and_right (eqb p' p) _ e), eqb-true p' p (and_left _ _ e)) at t)))
          (λ e. else-view o e (i.later p' n' (omega (arith, o.lasts p'))));
      never = λ p'.
          by_test (here p n p' 0)
          (λ e. absurd (z (sym (eqb-true 0 n (and_right (eqb p' p) _ e)))))
          (λ e. else-view o e (i.never p'));
      neat = o.neat i.neat;
      downs = else-downs o i.downs;
    }

-- a number weighs at most eight for its record, and nothing without one
rest-add-le : (es : List Entry) (s : Stage) → rest_add es s ≤ 8
rest-add-le [] Ready = lit≤ tt
rest-add-le [] Sent = lit≤ tt
rest-add-le [] Held = lit≤ tt
rest-add-le [] (Refused x) = lit≤ tt
rest-add-le [] Cleared = lit≤ tt
rest-add-le (e ∷ es) s = lit≤ tt

rest-unlink-le : (es : List Entry) (s : Stage) → rest_unlink es s ≤ 8
rest-unlink-le [] Ready = lit≤ tt
rest-unlink-le (e ∷ es) Ready = lit≤ tt
rest-unlink-le es Sent = lit≤ tt
rest-unlink-le es Held = lit≤ tt
rest-unlink-le es (Refused x) = lit≤ tt
rest-unlink-le es Cleared = lit≤ tt

or-more-le : (es : List Entry) (a b : ℕ) → a ≤ 8 → b ≤ 8 → or_more es a b ≤ 8
or-more-le [] a b h k = h
or-more-le (e ∷ es) a b h k = k

pub weigh-le : (c : Content) (n : ℕ) (es : List Entry) (w : Way) → weigh es w ≤ 8 * length (recs_of c n w)
weigh-le c n es idle = lit≤ tt
weigh-le c n es (rests Link s) = rest-add-le es s
weigh-le c n es (rests Create s) = rest-add-le es s
weigh-le c n es (rests Unlink s) = rest-unlink-le es s
weigh-le c n es (asking Link) = or-more-le es 7 3 (lit≤ tt) (lit≤ tt)
weigh-le c n es (asking Create) = or-more-le es 7 3 (lit≤ tt) (lit≤ tt)
weigh-le c n es (asking Unlink) = lit≤ tt
weigh-le c n es (told Link t) = or-more-le es 6 2 (lit≤ tt) (lit≤ tt)
weigh-le c n es (told Create t) = or-more-le es 6 2 (lit≤ tt) (lit≤ tt)
weigh-le c n es (told Unlink t) = lit≤ tt

-- a number with a record was given
pub given : {m : Model} (i : Whole m) (p n : ℕ) → 0 < load (i.local p n) → (partition m p).last < n → ⊥
given {m} i p n h t =
    let y : Fit m p n = i.local p n in
    let e : length (recs_of y.what n y.way) ≡ 0 = ap length (sym y.has.records ∙ (i.later p n t).records) in
    omega (arith, weigh-le y.what n y.entries y.way)

pub given-zero : {m : Model} (i : Whole m) (p n : ℕ) → 0 < load (i.local p n) → n ≡ 0 → ⊥
given-zero {m} i p n h t =
    let v : Blank m p n = rw t (i.never p) in
    let y : Fit m p n = i.local p n in
    let e : length (recs_of y.what n y.way) ≡ 0 = ap length (sym y.has.records ∙ v.records) in
    omega (arith, weigh-le y.what n y.entries y.way)

pub moved-whole : {m m' : Model} {p n : ℕ} (i : Whole m) → Moved m m' p n (load (i.local p n)) → Whole m'
moved-whole {p} {n} i x = change-whole i x.others x.to (λ t. given i p n (omega (arith, x.less)) (omega (arith, x.others.lasts p)))
    (given-zero i p n (omega (arith, x.less)))

pub moved-load : {m m' : Model} {p n : ℕ} (i : Whole m) (x : Moved m m' p n (load (i.local p n))) (p' n' : ℕ)
    → load ((moved-whole i x).local p' n') ≡ pick (here p n p' n') (load x.to) (load (i.local p' n'))
unfolding moved-whole change-whole
moved-load {p} {n} i x p' n' = (fit_at x.others x.to p' n' (i.local p' n') (here p n p' n') refl).is
