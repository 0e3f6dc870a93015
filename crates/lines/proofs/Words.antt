-- Words of a line by places: what stands from a place on, up to the next c, and behind it.
use mathlib.Core.Bool.{not}
use mathlib.Core.List.{List, [], ◌∷◌}
use mathlib.Core.Path.{◌∙◌, ◌≡◌, ap, refl, sym}
use Prim.Native.Nat.{◌+◌, ◌-◌, ◌<◌, ◌≤◌, suc, zero, ℕ}
use native.Mathlib.Numerals.{add-one}
use native.Mathlib.Omega.{arith}
use lib.Dec.{eqb, leb}
use lib.ListN.{drop, drop_of_length-le, get_or, length, length-drop, length-take, take}
use lib.Seq.{drop-cons, drop-drop, get_or-drop, take_all}
use borrow.Author.Tests.{eq-eqb, eqb-false, eqb-true, leb-false, leb-true, ne_eqb}
use Rattle.lists.specs.Lists.{pick}
use Rattle.lists.proofs.Tests.{by_test}
use Rattle.rehearsal.specs.Line.{behind, up_to}
use Rattle.std.specs.List.{prefix_len}

module _ (c : ℕ) (s : List ℕ) (at : ℕ) where
  pub word-past : length s ≤ at → up_to c (drop at s) ≡ []
  unfolding up_to
  word-past h = rw (drop_of_length-le s h)

  pub behind-past : length s ≤ at → behind c (drop at s) ≡ []
  unfolding behind
  behind-past h = rw (drop_of_length-le s h)

  module _ (h : at < length s) where
    pub behind-stop : get_or s at 0 ≡ c → behind c (drop at s) ≡ up_to c (drop (at + 1) s) ∷ behind c (drop (at + 1) s)
    unfolding behind
    behind-stop e = rw (add-one, drop-cons s at 0 h, eq-eqb _ _ e)

    behind_more : (get_or s at 0 ≡ c → ⊥) → behind c (drop at s) ≡ behind c (drop (at + 1) s)
    unfolding behind
    behind_more n = rw (add-one, drop-cons s at 0 h, ne_eqb _ _ n)

-- ---- how long a word is
module _ (c : ℕ) where
  pub word-length : (l : List ℕ) → length (up_to c l) ≤ length l
  unfolding up_to
  word-length [] = omega arith
  word-length (b ∷ l) = by_test (eqb b c) (λ t. rw t (omega arith)) (λ t. rw t (let h = word-length l in omega arith))

  pub word-taken : (l : List ℕ) → take (length (up_to c l)) l ≡ up_to c l
  unfolding up_to
  word-taken [] = refl
  word-taken (b ∷ l) = by_test (eqb b c) (λ t. rw t refl) (λ t. rw t (ap (λ (w : List ℕ). b ∷ w) (word-taken l)))

  pub word-is : (l : List ℕ) → length (up_to c l) ≡ prefix_len (λ b. not (eqb b c)) l
  unfolding up_to
  word-is [] = refl
  word-is (b ∷ l) = by_test (eqb b c) (λ t. rw t refl) (λ t. rw t (let h = word-is l in omega arith))

  pub word-near : (n : ℕ) (l : List ℕ) → up_to c (take n l) ≡ take n (up_to c l)
  unfolding up_to
  word-near zero l = refl
  word-near (suc n) [] = refl
  word-near (suc n) (b ∷ l) = by_test (eqb b c) (λ t. rw t refl) (λ t. rw t (ap (λ (w : List ℕ). b ∷ w) (word-near n l)))

  word_end : (l : List ℕ) → length (up_to c l) < length l → get_or l (length (up_to c l)) 0 ≡ c
  unfolding up_to
  word_end [] h = absurd (omega arith)
  word_end (b ∷ l) h =
      by_test (eqb b c)
      (λ t. rw t (eqb-true b c t))
      (λ t. rw t (word_end l (let g : length (pick (eqb b c) [] (b ∷ up_to c l)) < suc (length l) = h in let k = rw t at g in omega arith)))

  behind-word : (l : List ℕ) → behind c l ≡ behind c (drop (length (up_to c l)) l)
  unfolding up_to
  behind-word [] = refl
  behind-word (b ∷ l) =
      by_test (eqb b c)
      (λ t. rw t)
      (λ t. rw t (behind_more c (b ∷ l) 0 (omega arith) (eqb-false b c t) ∙ behind-word l))

-- ---- the end of a word, counted from its start
module _ (c : ℕ) (s : List ℕ) (from : ℕ) (h : from ≤ length s) where
  abbrev next : ℕ
  next = from + length (up_to c (drop from s))

  pub next-within : next ≤ length s
  next-within = let k = word-length c (drop from s) in let e = length-drop from s in omega arith

  pub next-stop : next < length s → get_or s next 0 ≡ c
  next-stop g = sym (get_or-drop from s (length (up_to c (drop from s))) 0) ∙ word_end c (drop from s) (let e = length-drop from s in omega arith)

  pub next-behind : behind c (drop from s) ≡ behind c (drop next s)
  next-behind = behind-word c (drop from s) ∙ ap (behind c) (drop-drop (length (up_to c (drop from s))) from s)

-- a word with a byte begins within the line
pub word-within : (c : ℕ) (s : List ℕ) (from : ℕ) (w : List ℕ) → w ≡ up_to c (drop from s) → 0 < length w → from + length w ≤ length s
word-within c s from w e h =
    by_test (leb from (length s))
    (λ t. let l : from ≤ length s = leb-true _ _ t in rw e (next-within c s from l))
    (λ t. let l : length s < from = leb-false _ _ t in let n = ap length (e ∙ word-past c s from (omega arith)) in absurd (omega arith))

-- what is left from a place on, which is cut to the line's end
pub rest-is : (s : List ℕ) (from m : ℕ) → (from ≤ length s → m ≡ from) → (length s ≤ from → m ≡ length s) → take (length s - m) (drop m s) ≡ drop from s
rest-is s from m e f =
    take_all (length s - m) (drop m s) (omega (arith, length-drop m s))
    ∙ by_test (leb from (length s))
    (λ t. ap (λ (k : ℕ). drop k s) (e (leb-true _ _ t)))
    (λ t. let h : length s ≤ from = (let g = leb-false _ _ t in omega arith) in rw (f h, drop_of_length-le s h) (drop_of_length-le s (omega arith)))

-- ---- `word_at`: a list r is cut where its first word ends
module _ (c : ℕ) (r : List ℕ) (n : ℕ) (e : n ≡ prefix_len (λ b. not (eqb b c)) r) where
  len : n ≡ length (up_to c r)
  len = e ∙ sym (word-is c r)

  pub word-fits : n ≡ length (take n r)
  word-fits = let h = word-length c r in omega (arith, len, length-take n r)

  pub word-cut : (s : List ℕ) (from m : ℕ) → r ≡ take (length s - m) (drop m s) → (from ≤ length s → m ≡ from) → (length s ≤ from → m ≡ length s)
      → take n r ≡ up_to c (drop from s)
  word-cut s from m f g h = rw len (word-taken c r) ∙ ap (up_to c) (f ∙ rest-is s from m g h)
