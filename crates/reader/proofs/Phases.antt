-- A walk through the records of one kind, over any row: it reads what `many` reads, and goes on behind it.
use mathlib.Core.Bool.{Bool, false, true}
use mathlib.Core.List.{List, [], ◌++◌, ◌∷◌}
use mathlib.Core.Path.{◌∙◌, ◌≡◌, ap, refl, sym}
use Prim.Native.Nat.{◌+◌, ◌<◌, ◌≤◌, suc, zero, ℕ}
use native.Mathlib.Omega.{arith}
use lib.Dec.{eqb, leb}
use lib.ListN.{drop, length}
use borrow.Author.Tests.{eqb-true, le-leb, lt-leb}
use Rattle.lists.specs.Lists.{pick}
use Rattle.protocol.specs.declared.Refusal.TheVariants.{CountWrong, FieldOutOfRange}
use Rattle.codec.specs.Codec.{Got, bad, got, none}
use Rattle.picture.specs.Picture.{ed, Picture, closing, ended}
use Rattle.picture.specs.Rows.{Read, Row, begins, body, fail, judged, many, marked, more, next, one}
use Rattle.picture.specs.Standing.{handed_at, hands, hands_close}
use Rattle.picture.specs.declared.Handed.{Handed}
use Rattle.reader.specs.Walk.{join, together, walk}
use Rattle.lists.proofs.Keep.{snoc-length}
use Rattle.lists.proofs.Tests.{and_left, and_right, by_test, no_true}
use Rattle.picture.proofs.Rounds.{next_more, same_mark}

-- ---- readings in a row

pub next-next : {A B C : Type 0} (R : Read A) (f : A → List ℕ → Read B) (g : B → List ℕ → Read C) → next (next R f) g ≡ next R (λ x r. next (f x r) g)
unfolding next
next-next (fail why) f g = refl
next-next (more x r) f g = refl

-- on what is read, with the equation
pub next-same : {A B : Type 0} (R : Read A) (f g : A → List ℕ → Read B) → ((x : A) (r : List ℕ) → R ≡ more x r → f x r ≡ g x r) → next R f ≡ next R g
unfolding next
next-same (fail why) f g h = refl
next-same (more x r) f g h = h x r refl

-- a record of which there is one too many is refused as it would be alone, and else as out of range
pub body-never : {A : Type 0} {B : Type 0} (w : Row A) (t : A → Bool) (bs : List ℕ)
    → next (body w FieldOutOfRange t bs) (λ x r. fail FieldOutOfRange) ≡ next {B = B} (body w FieldOutOfRange (λ x. false) bs) (λ x r. fail FieldOutOfRange)
unfolding body judged next
body-never {A} {B} w t bs = over (w.form.get (drop 2 bs))
  where
    picked : (b : Bool) (x : A) (r : List ℕ) → next {B = B} (pick b (more x r) (fail FieldOutOfRange)) (λ y q. fail FieldOutOfRange) ≡ fail FieldOutOfRange
    picked true x r = refl
    picked false x r = refl

    over : (g : Got A) → next {B = B} (judged FieldOutOfRange t g) (λ x r. fail FieldOutOfRange) ≡ next (judged FieldOutOfRange (λ x. false) g) (λ x r. fail FieldOutOfRange)
    over none = refl
    over bad = refl
    over (got x r) = picked (t x) x r

-- bytes that begin with one mark do not begin with another
pub other-mark : {A B : Type 0} (v : Row A) (w : Row B) (bs : List ℕ) → same_mark v w ≡ false → marked w bs ≡ true → marked v bs ≡ false
unfolding begins
other-mark v w [] d m = no_true m refl
other-mark v w (a ∷ []) d m = no_true m refl
other-mark v w (a ∷ b ∷ r) d m =
    let p : a ≡ w.first = eqb-true a w.first (and_left _ _ m) in
    let q : b ≡ w.second = eqb-true b w.second (and_right (eqb a w.first) _ m) in
    rw (p, q) d

-- ---- one step, where the reader hands out what a body says

module _ {A : Type 0} (hand : A → Handed) (s : List ℕ) (at : ℕ) (full : Bool) (R : Read A) (e : handed_at s at ≡ hands hand at full R) (n : ℕ) (y : Picture) where
  pub step-full : full ≡ true → together y (walk (suc n) s at) ≡ next R (λ x r. fail FieldOutOfRange)
  unfolding walk together hands join next
  step-full f = rw (e, f) (over R)
    where
      over : (Q : Read A) → join (hands hand at true Q).part y (λ z. together z (walk n s (hands hand at true Q).next)) ≡ next Q (λ x r. fail FieldOutOfRange)
      over (fail why) = refl
      over (more x r) = refl

  pub step-turn : full ≡ false → (F : A → Picture) (place : A → ℕ) → ((x : A) (on : Picture → Read Picture) → join (hand x).part y on ≡ on (F x)) → ((x : A) → (hand x).next ≡ place x)
      → together y (walk (suc n) s at) ≡ next R (λ x r. together (F x) (walk n s (place x)))
  unfolding walk together hands join next
  step-turn f F place j p = rw (e, f) (over R)
    where
      over : (Q : Read A) → join (hands hand at false Q).part y (λ z. together z (walk n s (hands hand at false Q).next)) ≡ next Q (λ x r. together (F x) (walk n s (place x)))
      over (fail why) = refl
      over (more x r) = j x (λ z. together z (walk n s (hand x).next)) ∙ ap (λ (i : ℕ). together (F x) (walk n s i)) (p x)

-- ---- the last step, at the close

ended-none : (n : ℕ) (q : List ℕ) (m : ℕ) (r : List ℕ) → ended n q ≡ more m r → r ≡ []
unfolding ended
ended-none n [] m r e = cc
ended-none n (b ∷ q) m r e = let z : ◌≡◌ {A = ℕ} 0 1 = cc in absurd (omega arith)

closing-none : (n : ℕ) (bs : List ℕ) (m : ℕ) (r : List ℕ) → closing n bs ≡ more m r → r ≡ []
unfolding closing
closing-none n bs m r e =
    let (k, q, f, g) = next_more (one ed CountWrong (eqb n) bs) _ m r e in
    ended-none k q m r g

pub step-close : (s : List ℕ) (at k : ℕ) (bs : List ℕ) (n : ℕ) (y : Picture) → handed_at s at ≡ hands_close at (closing k bs) → together y (walk (suc n) s at) ≡ next (closing k bs) (λ m q. more y q)
unfolding walk together hands_close join next
step-close s at k bs n y e = rw e (over (closing k bs) (closing-none k bs))
  where
    over : (Q : Read ℕ) → ((m : ℕ) (q : List ℕ) → Q ≡ more m q → q ≡ []) → join (hands_close at Q).part y (λ z. together z (walk n s (hands_close at Q).next)) ≡ next Q (λ m q. more y q)
    over (fail why) f = refl
    over (more m q) f = ap (more y) (sym (f m q refl))

-- ---- the walk through the records xs of one kind: P is the picture with them, `at` the place behind them, bs are the bytes there,
-- and K goes on behind the last

module _ {A : Type 0} (w : Row A) (test : A → Bool) (cap rest : ℕ) (s : List ℕ) (P : List A → Picture) (at : List A → ℕ) (hand : ℕ → A → Handed) (K : List A → List ℕ → Read Picture) (Good : List A → List ℕ → Type 0) where
  abbrev W : ℕ → List A → Read Picture
  W n xs = together (P xs) (walk n s (at xs))

  pub record Phase : Type 0 where
    pub some : 1 ≤ rest
    pub handed : (xs : List A) (bs : List ℕ) → Good xs bs → marked w bs ≡ true → handed_at s (at xs) ≡ hands (hand (at xs)) (at xs) (leb cap (length xs)) (body w FieldOutOfRange test bs)
    pub joins : (xs : List A) (x : A) (on : Picture → Read Picture) → join (hand (at xs) x).part (P xs) on ≡ on (P (xs ++ x ∷ []))
    pub leads : (xs : List A) (x : A) → (hand (at xs) x).next ≡ at (xs ++ x ∷ [])
    pub grows : (xs : List A) (bs : List ℕ) (x : A) (r : List ℕ) → Good xs bs → marked w bs ≡ true → length xs < cap → body w FieldOutOfRange test bs ≡ more x r → Good (xs ++ x ∷ []) r
    pub stops : (n : ℕ) (xs : List A) (bs : List ℕ) → Good xs bs → marked w bs ≡ false → rest ≤ n → W n xs ≡ K xs bs

  module _ (p : Phase) where
    full : (n : ℕ) (xs : List A) (bs : List ℕ) → Good xs bs → marked w bs ≡ true → cap ≤ length xs → W (suc n) xs ≡ next (body w FieldOutOfRange test bs) (λ x r. fail FieldOutOfRange)
    full n xs bs g m l = step-full (hand (at xs)) s (at xs) (leb cap (length xs)) _ (p.handed xs bs g m) n (P xs) (le-leb _ _ l)

    turn : (n : ℕ) (xs : List A) (bs : List ℕ) → Good xs bs → marked w bs ≡ true → length xs < cap → W (suc n) xs ≡ next (body w FieldOutOfRange test bs) (λ x r. W n (xs ++ x ∷ []))
    turn n xs bs g m l =
        step-turn (hand (at xs)) s (at xs) (leb cap (length xs)) _ (p.handed xs bs g m) n (P xs) (lt-leb _ _ l) (λ x. P (xs ++ x ∷ [])) (λ x. at (xs ++ x ∷ [])) (p.joins xs) (p.leads xs)

    pub phase : (k n : ℕ) (xs : List A) (bs : List ℕ) → Good xs bs → length xs + k ≡ cap → k + rest ≤ n → W n xs ≡ next (many w (λ earlier. test) k xs bs) K
    unfolding many next
    phase zero zero xs bs g e l = absurd (omega (arith, p.some))
    phase zero (suc n) xs bs g e l =
        by_test (marked w bs)
        (λ m. rw m (full n xs bs g m (omega arith) ∙ body-never w test bs ∙ sym (next-next (body w FieldOutOfRange (λ x. false) bs) (λ x r. fail FieldOutOfRange) K)))
        (λ m. rw m (p.stops (suc n) xs bs g m (omega arith)))
    phase (suc k) zero xs bs g e l = absurd (omega arith)
    phase (suc k) (suc n) xs bs g e l =
        by_test (marked w bs)
        (λ m.
        rw m
        (turn n xs bs g m (omega arith)
        ∙ next-same (body w FieldOutOfRange test bs) _ _ (λ x r b. phase k n (xs ++ x ∷ []) r (p.grows xs bs x r g m (omega arith) b) (rw (snoc-length xs x) (omega arith)) (omega arith))
        ∙ sym (next-next (body w FieldOutOfRange test bs) (λ x r. many w (λ earlier. test) k (xs ++ x ∷ []) r) K)))
        (λ m. rw m (p.stops (suc n) xs bs g m (omega arith)))
