-- Codecs whose values all have the same number of bytes.
use mathlib.Core.Bool.{Bool, false, true}
use mathlib.Core.List.{List, [], ◌∷◌}
use mathlib.Core.Path.{◌≡◌, refl}
use Prim.Native.Nat.{◌+◌, ◌-◌, ◌<◌, ◌≤◌, suc, zero, ℕ}
use native.Mathlib.Omega.{arith}
use lib.Dec.{ltb}
use lib.ListN.{drop, length, length-drop, take}
use lib.Seq.{drop-drop}
use borrow.Author.Tests.{ltb-false, ltb-true}
use Rattle.codec.specs.Codec.{Codec, after, both, byte, get1, get2, get4, get_run, got, long, none, run, then, those, via, word}

-- n bytes: nothing is read of fewer, and of more the first n are read
pub record Sized {A : Type 0} (c : Codec A) (n : ℕ) : Type 0 where
  pub short : (bs : List ℕ) → length bs < n → c.get bs ≡ none
  pub full : (bs : List ℕ) → n ≤ length bs → (x : A) × (c.get bs ≡ got x (drop n bs))

pub sized-byte : Sized byte 1
unfolding byte get1
sized-byte = record { short = short1; full = full1 }
  where
    short1 : (bs : List ℕ) → length bs < 1 → get1 bs ≡ none
    short1 [] h = refl
    short1 (b ∷ bs) h = absurd (omega arith)

    full1 : (bs : List ℕ) → 1 ≤ length bs → (x : ℕ) × (get1 bs ≡ got x (drop 1 bs))
    full1 [] h = absurd (omega arith)
    full1 (b ∷ bs) h = (b, refl)

pub sized-then : {A B : Type 0} (c : Codec A) (f : A → Codec B) (n m : ℕ) → Sized c n → ((a : A) → Sized (f a) m) → Sized (then c f) (n + m)
unfolding then after
sized-then {A} {B} c f n m u v = record { short = λ bs h. short-by bs h (ltb (length bs) n) refl; full = full_by }
  where
    behind : (bs : List ℕ) → length (drop n bs) ≡ length bs - n
    behind bs = length-drop n bs

    short-by : (bs : List ℕ) → length bs < n + m → (b : Bool) → ltb (length bs) n ≡ b → (then c f).get bs ≡ none
    short-by bs h true e = rw (u.short bs (ltb-true _ _ e))
    short-by bs h false e =
        let g : n ≤ length bs = ltb-false _ _ e in
        let w = u.full bs g in
        rw (w.1, (v w.0).short (drop n bs) (omega (arith, behind bs)))

    full_by : (bs : List ℕ) → n + m ≤ length bs → (x : A × B) × ((then c f).get bs ≡ got x (drop (n + m) bs))
    full_by bs h =
        let w = u.full bs (omega arith) in
        let z = (v w.0).full (drop n bs) (omega (arith, behind bs)) in
        ((w.0, z.0), rw (w.1, z.1, drop-drop m n bs))

pub sized-both : {A B : Type 0} (c : Codec A) (d : Codec B) (n m : ℕ) → Sized c n → Sized d m → Sized (both c d) (n + m)
sized-both c d n m u v = sized-then c (λ a. d) n m u (λ a. v)

pub sized-via : {A B : Type 0} (to : A → B) (from : B → A) (ok : B → Bool) (c : Codec A) (n : ℕ) → Sized c n → Sized (via to from ok c) n
unfolding via after
sized-via to from ok c n u =
    record {
      short = λ bs h. rw (u.short bs h);
      full = λ bs h. let w = u.full bs h in (to w.0, rw w.1);
    }

pub run_at : (n : ℕ) (bs : List ℕ) → n ≤ length bs → get_run n bs ≡ got (take n bs) (drop n bs)
unfolding get_run after
run_at zero bs h = refl
run_at (suc n) [] h = absurd (omega arith)
run_at (suc n) (b ∷ bs) h = rw (run_at n bs (omega arith))

run_short : (n : ℕ) (bs : List ℕ) → length bs < n → get_run n bs ≡ none
unfolding get_run after
run_short zero bs h = absurd (omega arith)
run_short (suc n) [] h = refl
run_short (suc n) (b ∷ bs) h = rw (run_short n bs (omega arith))

pub sized-run : (n : ℕ) → Sized (run n) n
unfolding run
sized-run n = record { short = run_short n; full = λ bs h. (take n bs, run_at n bs h) }

pub sized-word : Sized word 2
unfolding word get2 get1 after
sized-word = record { short = short2; full = full2 }
  where
    short2 : (bs : List ℕ) → length bs < 2 → get2 bs ≡ none
    short2 [] h = refl
    short2 (a ∷ []) h = refl
    short2 (a ∷ b ∷ bs) h = absurd (omega arith)

    full2 : (bs : List ℕ) → 2 ≤ length bs → (x : ℕ) × (get2 bs ≡ got x (drop 2 bs))
    full2 [] h = absurd (omega arith)
    full2 (a ∷ []) h = absurd (omega arith)
    full2 (a ∷ b ∷ bs) h = (_, refl)

pub sized-long : Sized long 4
unfolding long get4 get2 get1 after
sized-long = record { short = short4; full = full4 }
  where
    short4 : (bs : List ℕ) → length bs < 4 → get4 bs ≡ none
    short4 [] h = refl
    short4 (a ∷ []) h = refl
    short4 (a ∷ b ∷ []) h = refl
    short4 (a ∷ b ∷ c ∷ []) h = refl
    short4 (a ∷ b ∷ c ∷ d ∷ bs) h = absurd (omega arith)

    full4 : (bs : List ℕ) → 4 ≤ length bs → (x : ℕ) × (get4 bs ≡ got x (drop 4 bs))
    full4 [] h = absurd (omega arith)
    full4 (a ∷ []) h = absurd (omega arith)
    full4 (a ∷ b ∷ []) h = absurd (omega arith)
    full4 (a ∷ b ∷ c ∷ []) h = absurd (omega arith)
    full4 (a ∷ b ∷ c ∷ d ∷ bs) h = (_, refl)

-- of values that pass a test the bytes may be bad, but none are read of fewer
abbrev pub Short : {A : Type 0} → Codec A → ℕ → Type 0
Short c n = (bs : List ℕ) → length bs < n → c.get bs ≡ none

pub short-those : {A : Type 0} (t : A → Bool) (c : Codec A) (n : ℕ) → Short c n → Short (those t c) n
unfolding those after
short-those t c n u bs h = rw (u bs h)

pub short-via : {A B : Type 0} (to : A → B) (from : B → A) (ok : B → Bool) (c : Codec A) (n : ℕ) → Short c n → Short (via to from ok c) n
unfolding via after
short-via to from ok c n u bs h = rw (u bs h)
