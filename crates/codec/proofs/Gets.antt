-- Numbers at a place.
use mathlib.Core.List.{List, [], ◌∷◌}
use mathlib.Core.Path.{◌∙◌, ◌≡◌, ap, refl}
use Prim.Native.Nat.{◌*◌, ◌+◌, ◌<◌, ◌≤◌, suc, ℕ}
use native.Mathlib.Numerals.{add-one}
use native.Mathlib.Omega.{arith}
use lib.ListN.{drop, get_or, length}
use lib.Seq.{drop-cons}
use Rattle.std.specs.Int.{from_be_bytes, w32}
use Rattle.codec.specs.Codec.{after, get1, get2, get4, got}

module _ (s : List ℕ) (at : ℕ) where
  pub get1-at : at < length s → get1 (drop at s) ≡ got (get_or s at 0) (drop (at + 1) s)
  unfolding get1
  get1-at h = rw (drop-cons s at 0 h, add-one at)

  pub get2-at : (a b : ℕ) → at + 2 ≤ length s → a ≡ get_or s at 0 → b ≡ get_or s (at + 1) 0 → get2 (drop at s) ≡ got (a * 256 + b) (drop (at + 2) s)
  unfolding get2 get1 after
  get2-at a b h p q =
      let e : at + 2 ≡ suc (suc at) = omega arith in
      rw (drop-cons s at 0 (omega arith), drop-cons s (suc at) 0 (omega arith), p, q, add-one at, e)

  pub get4-at : (a b : ℕ) → get2 (drop at s) ≡ got a (drop (at + 2) s) → get2 (drop (at + 2) s) ≡ got b (drop (at + 2 + 2) s) → get4 (drop at s) ≡ got (a * 65536 + b) (drop (at + 4) s)
  unfolding get4 after
  get4-at a b p q =
      let e : at + 2 + 2 ≡ at + 4 = omega arith in
      rw (p, q, e)

-- the numbers that the library makes of bytes
module _ (s : List ℕ) (at n : ℕ) where
  pub get4-be : at + 4 ≤ length s → n ≡ from_be_bytes w32 (get_or s at 0 ∷ get_or s (at + 1) 0 ∷ get_or s (at + 2) 0 ∷ get_or s (at + 3) 0 ∷ []) → get4 (drop at s) ≡ got n (drop (at + 4) s)
  get4-be h e =
      let a = get_or s at 0 in
      let b = get_or s (at + 1) 0 in
      let c = get_or s (at + 2) 0 in
      let d = get_or s (at + 3) 0 in
      let k : at + 3 ≡ at + 2 + 1 = omega arith in
      let p = get2-at s at a b (omega arith) refl refl in
      let q = get2-at s (at + 2) c d (omega arith) refl (ap (λ (i : ℕ). get_or s i 0) k) in
      let j : (a * 256 + b) * 65536 + (c * 256 + d) ≡ n = omega (arith, e) in
      get4-at s at (a * 256 + b) (c * 256 + d) p q ∙ ap (λ (m : ℕ). got m (drop (at + 4) s)) j

pub ruleset gets = (get1-at, get2-at, get4-be)
