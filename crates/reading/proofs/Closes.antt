-- The close: a law for each way through the code that reads it.
use mathlib.Core.Bool.{Bool, false, true}
use mathlib.Core.List.{List, []}
use mathlib.Core.Path.{◌∙◌, ◌≡◌, sym}
use Prim.Native.Nat.{◌+◌, ◌-◌, ◌<◌, ◌≤◌, ℕ}
use native.Mathlib.Omega.{arith}
use lib.Dec.{eqb, ltb}
use lib.ListN.{drop, drop_of_length-le, length, length-drop}
use lib.Seq.{drop-cons, drop-drop}
use borrow.Author.Tests.{eq-eqb, le-ltb, lt-ltb, ne_eqb}
use Rattle.protocol.specs.declared.Refusal.{Refusal}
use Rattle.protocol.specs.declared.Refusal.TheVariants.{BytesAfterClose, CountWrong, EndsEarly, MarkNotAllowed}
use Rattle.codec.specs.Codec.{get2, got, word}
use Rattle.picture.specs.Picture.{ed, closing, ended}
use Rattle.picture.specs.Rows.{body, fail, marked, more, next, one}
use Rattle.decoding.proofs.Fields.{short-ed}
use Rattle.decoding.proofs.Ways.{body-bad, body-good, body-short}

module _ (s : List ℕ) (at n : ℕ) (in-it : at ≤ length s) where
  abbrev d : List ℕ
  d = drop at s

  left : length d ≡ length s - at
  left = length-drop at s

  stops : (why : Refusal) → one ed CountWrong (eqb n) d ≡ fail why → fail why ≡ closing n d
  unfolding closing next
  stops why e = rw e

  pub close-early : length s - at < 2 → fail EndsEarly ≡ closing n d
  unfolding one
  close-early h = let k : length d < 2 = omega (arith, left) in stops EndsEarly (rw (lt-ltb _ _ k))

  module _ (b : Bool) (m : b ≡ marked ed d) (two : 2 ≤ length s - at) where
    enough : ltb (length d) 2 ≡ false
    enough = let k : 2 ≤ length d = omega (arith, left) in le-ltb _ _ k

    pub close-foreign : b ≡ false → fail MarkNotAllowed ≡ closing n d
    unfolding one
    close-foreign f = stops MarkNotAllowed (rw (enough, ← m, f))

    module _ (g : b ≡ true) where
      body_is : one ed CountWrong (eqb n) d ≡ body ed CountWrong (eqb n) d
      unfolding one
      body_is = rw (enough, ← m, g)

      pub close-short : length s - at < 4 → fail EndsEarly ≡ closing n d
      close-short h = stops EndsEarly (body_is ∙ body-short ed CountWrong (eqb n) d (short-ed (drop 2 d) (omega (arith, left, length-drop 2 d))))

      module _ (k : ℕ) (e : get2 (drop (at + 2) s) ≡ got k (drop (at + 2 + 2) s)) where
        fields : ed.form.get (drop 2 d) ≡ got k (drop (at + 4) s)
        unfolding ed word
        fields = let j : at + 2 + 2 ≡ at + 4 = omega arith in rw (drop-drop 2 at s, ← j) e

        pub close-count : (k ≡ n → ⊥) → fail CountWrong ≡ closing n d
        close-count f = stops CountWrong (body_is ∙ body-bad ed CountWrong (eqb n) d k _ fields (ne_eqb n k (λ z. f (sym z))))

        module _ (same : k ≡ n) where
          read_is : closing n d ≡ ended k (drop (at + 4) s)
          unfolding closing next
          read_is = rw (body_is ∙ body-good ed CountWrong (eqb n) d k _ fields (eq-eqb n k (sym same)))

          pub close-after : 4 < length s - at → fail BytesAfterClose ≡ closing n d
          unfolding ended
          close-after h = sym (read_is ∙ rw (drop-cons s (at + 4) 0 (omega arith)))

          pub close-good : length s - at ≤ 4 → more n [] ≡ closing n d
          unfolding ended
          close-good h =
              let past : length s ≤ at + 4 = omega arith in
              sym (read_is ∙ rw (drop_of_length-le s past, same))

pub ruleset close_laws = (close-early, close-foreign, close-short, close-count, close-after, close-good)
