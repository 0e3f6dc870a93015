-- The form of each kind of record reads back what it put, and no other bytes; of every edition at once.
use mathlib.Core.Bool.{Bool, true}
use mathlib.Core.List.{List}
use mathlib.Core.Path.{◌≡◌, ap, refl, sym}
use Prim.Native.Nat.{ℕ}
use lib.Dec.{eqb}
use lib.ListN.{length, take}
use borrow.Author.Tests.{eqb-true}
use Rattle.lists.specs.Lists.{pad}
use Rattle.names.specs.Names.{name_bytes, same_bytes}
use Rattle.protocol.specs.Elements.{is_ready, kind_number}
use Rattle.protocol.specs.declared.Kind.{Kind}
use Rattle.protocol.specs.declared.Kind.TheVariants.{Create, Link, Unlink}
use Rattle.protocol.specs.declared.Stage.{Stage}
use Rattle.protocol.specs.declared.Stage.TheVariants.{Cleared, Held, Ready, Refused, Sent}
use Rattle.codec.specs.Codec.{Codec, always, both, byte, long, run, then, those}
use Rattle.picture.specs.Picture.{bp, ed, en, Edition, hd, lg, is_kind, item_form, kind_of, name_form}
use Rattle.lists.proofs.Backs.{take-filled}
use Rattle.lists.proofs.Tests.{and_left, and_right, by_test, no_true, or_right}
use Rattle.names.proofs.Laws.{bytes_same, bytes-true}
use Rattle.codec.proofs.Laws.{Lawful, lawful_both, lawful-byte, lawful-long, lawful-run, lawful_then, lawful-those, lawful-via, lawful-word}

-- a run has the length that it is said to have
run_length : (n : ℕ) (l : List ℕ) → (run n).fine l ≡ true → length l ≡ n
unfolding run
run_length n l e = eqb-true _ _ e

pair-fine : (held : ℕ → ℕ) (f : ℕ × List ℕ) → (then byte (λ len. run (held len))).fine f ≡ true → length f.1 ≡ held f.0
unfolding then
pair-fine held f e = run_length (held f.0) f.1 (and_right (byte.fine f.0) _ e)

pub lawful-name : (v : Edition) → Lawful (name_form v)
unfolding name_form
lawful-name v =
    lawful-via _ _ _ (then byte (λ len. run (v.held len)))
    (λ s e i. record { len = s.len; bytes = sym (bytes-true s.bytes (pad name_bytes 0 (take (v.held s.len) s.bytes)) e) i })
    (λ f e. let q = take-filled name_bytes 0 f.1 (v.held f.0) (pair-fine v.held f e) in (ap (λ (l : List ℕ). (f.0, l)) q, same f.1 (v.held f.0) q))
    (lawful_then byte (λ len. run (v.held len)) lawful-byte (λ len. lawful-run (v.held len)))
  where
    same : (l : List ℕ) (n : ℕ) → take n (pad name_bytes 0 l) ≡ l → same_bytes (pad name_bytes 0 l) (pad name_bytes 0 (take n (pad name_bytes 0 l))) ≡ true
    same l n e = rw e (bytes_same (pad name_bytes 0 l))

pub lawful-item : (v : Edition) → Lawful (item_form v)
unfolding item_form
lawful-item v =
    lawful_both byte _ lawful-byte (lawful_both byte _ lawful-byte (lawful_both byte _ lawful-byte (lawful_both (name_form v) long (lawful-name v) lawful-long)))

pub lawful-hd : (v : Edition) → Lawful (hd v).form
unfolding hd
lawful-hd v = lawful-via _ _ always (both byte (both byte long)) (λ n h. refl) (λ f h. (refl, refl)) (lawful_both byte _ lawful-byte (lawful_both byte long lawful-byte lawful-long))

pub lawful-en : (v : Edition) → Lawful (en v).form
unfolding en
lawful-en v = lawful-via _ _ always (item_form v) (λ n h. refl) (λ f h. (refl, refl)) (lawful-item v)

pub lawful-bp : (v : Edition) → Lawful (bp v).form
unfolding bp
lawful-bp v = lawful-via _ _ always (item_form v) (λ n h. refl) (λ f h. (refl, refl)) (lawful-item v)

-- ---- a kind and its number, and a record that is ready

pub kind-there : (k : Kind) → kind_of (kind_number k) ≡ k
kind-there Link = refl
kind-there Create = refl
kind-there Unlink = refl

pub kind-back : (k : ℕ) → is_kind k ≡ true → kind_number (kind_of k) ≡ k
kind-back k e =
    by_test (eqb k 1)
    (λ t. rw t (sym (eqb-true k 1 t)))
    (λ t. by_test (eqb k 2)
    (λ u. rw (t, u) (sym (eqb-true k 2 u)))
    (λ u. rw (t, u) (sym (eqb-true k 3 (or_right (eqb k 2) (or_right (eqb k 1) e t) u)))))

pub ready-is : (g : Stage) → is_ready g ≡ true → Ready ≡ g
ready-is Ready e = refl
ready-is Sent e = no_true e refl
ready-is Held e = no_true e refl
ready-is (Refused why) e = no_true e refl
ready-is Cleared e = no_true e refl

those-test : {A : Type 0} (t : A → Bool) (c : Codec A) (x : A) → (those t c).fine x ≡ true → t x ≡ true
unfolding those
those-test t c x e = and_left (t x) (c.fine x) e

pub lawful-lg : (v : Edition) → Lawful (lg v).form
unfolding lg
lawful-lg v =
    lawful-via _ _ _ (those (λ f. is_kind f.0) (both byte (item_form v)))
    (λ r e i.
    record {
      kind = kind-there r.kind i;
      directory = r.directory;
      name = r.name;
      partition = r.partition;
      object = r.object;
      number = r.number;
      stage = ready-is r.stage e i;
    })
    (λ f e. (ap (λ (k : ℕ). (k, f.1)) (kind-back f.0 (those-test (λ g. is_kind g.0) (both byte (item_form v)) f e)), refl))
    (lawful-those (λ f. is_kind f.0) (both byte (item_form v)) (lawful_both byte (item_form v) lawful-byte (lawful-item v)))

pub lawful-ed : Lawful ed.form
unfolding ed
lawful-ed = lawful-word
