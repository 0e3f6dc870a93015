-- A decoder of one kind of record: a law for each way through it, over any row; and what its answer tells a caller.
use mathlib.Core.Bool.{Bool, false, true}
use mathlib.Core.List.{List}
use mathlib.Core.Path.{◌∙◌, ◌≡◌, sym}
use Prim.Native.Nat.{◌-◌, ◌<◌, ◌≤◌, ℕ}
use native.Mathlib.Omega.{arith}
use lib.ListN.{drop, length, length-drop}
use borrow.Author.Tests.{le-ltb, lt-ltb}
use Rattle.lists.specs.Lists.{pick}
use Rattle.protocol.specs.declared.Refusal.TheVariants.{EndsEarly, FieldOutOfRange, MarkNotAllowed}
use Rattle.codec.specs.Codec.{bad, got}
use Rattle.picture.specs.Rows.{Read, Row, body, fail, marked, more, one}
use Rattle.codec.proofs.Sizes.{Short}
use Rattle.decoding.proofs.Ways.{body-bad, body-good, body-none, body-short}

module _ {A : Type 0} (w : Row A) (t : A → Bool) (size : ℕ) (s : List ℕ) where
  abbrev read : Read A
  read = body w FieldOutOfRange t s

  pub decode-short : length s < size → 2 < size → Short w.form (size - 2) → fail EndsEarly ≡ read
  decode-short h p short = sym (body-short w FieldOutOfRange t s (short (drop 2 s) (omega (arith, length-drop 2 s))))

  pub decode-none : w.form.get (drop 2 s) ≡ bad → fail FieldOutOfRange ≡ read
  decode-none e = sym (body-none w FieldOutOfRange t s e)

  module _ (x : A) (e : w.form.get (drop 2 s) ≡ got x (drop size s)) (b : Bool) (h : b ≡ t x) where
    pub decode-bad : b ≡ false → fail FieldOutOfRange ≡ read
    decode-bad f = sym (body-bad w FieldOutOfRange t s x (drop size s) e (sym h ∙ f))

    pub decode-good : b ≡ true → more x (drop size s) ≡ read
    decode-good f = sym (body-good w FieldOutOfRange t s x (drop size s) e (sym h ∙ f))

  -- the same behind a mark that is tested
  pub one-early : length s < 2 → fail EndsEarly ≡ one w FieldOutOfRange t s
  unfolding one
  one-early h = rw (lt-ltb _ _ h)

  module _ (b : Bool) (m : b ≡ marked w s) (h : 2 ≤ length s) where
    one-is : one w FieldOutOfRange t s ≡ pick b read (fail MarkNotAllowed)
    unfolding one
    one-is = rw (le-ltb _ _ h, ← m)

    pub one-foreign : b ≡ false → fail MarkNotAllowed ≡ one w FieldOutOfRange t s
    one-foreign f = sym (one-is ∙ rw f)

    pub one-marked : b ≡ true → (R : Read A) → R ≡ read → R ≡ one w FieldOutOfRange t s
    one-marked f R d = d ∙ sym (one-is ∙ rw f)

pub ruleset decodes = (decode-short, decode-none, decode-bad, decode-good)
