-- Each codec reads back what it put, and no other bytes.
use mathlib.Core.Bool.{Bool, false, true}
use mathlib.Core.List.{List, [], ◌++◌, ◌∷◌, append_assoc}
use mathlib.Core.Path.{◌∙◌, ◌≡◌, ap, refl, subst, sym}
use Prim.Native.Nat.{◌%◌, ◌*◌, ◌+◌, ◌/◌, ◌<◌, suc, zero, ℕ}
use native.Mathlib.Omega.{arith}
use lib.ListN.{length}
use borrow.Author.Tests.{eq-eqb, eqb-true, lt-ltb, ltb-true}
use Rattle.lists.specs.Lists.{all, pick}
use Rattle.codec.specs.Codec.{Codec, Got, after, bad, be2, be4, both, byte, get1, get2, get4, get_run, got, is_byte, join, long, none, run, then, those, via, word}
use Rattle.lists.proofs.Alls.{all_rest}
use Rattle.lists.proofs.Tests.{and_left, and_right, both_true}

pub record Lawful {A : Type 0} (c : Codec A) : Type 0 where
  pub reads : (x : A) (r : List ℕ) → c.fine x ≡ true → c.get (c.put x ++ r) ≡ got x r
  pub only : (bs : List ℕ) (x : A) (r : List ℕ) → all is_byte bs ≡ true → c.get bs ≡ got x r → (bs ≡ c.put x ++ r) × (c.fine x ≡ true)

-- what was read before, where something was read after it
pub after-got : {A B : Type 0} (g : Got A) (f : A → List ℕ → Got B) (y : B) (r : List ℕ) → after g f ≡ got y r → (a : A) × (q : List ℕ) × (g ≡ got a q) × (f a q ≡ got y r)
unfolding after
after-got none f y r e = let z : ◌≡◌ {A = ℕ} 0 1 = cc in absurd (omega arith)
after-got bad f y r e = let z : ◌≡◌ {A = ℕ} 0 1 = cc in absurd (omega arith)
after-got (got a q) f y r e = (a, q, refl, e)

pub lawful-byte : Lawful byte
unfolding byte get1 all
lawful-byte = record { reads = λ x r h. refl; only = only-byte }
  where
    only-byte : (bs : List ℕ) (x : ℕ) (r : List ℕ) → all is_byte bs ≡ true → byte.get bs ≡ got x r → (bs ≡ byte.put x ++ r) × (byte.fine x ≡ true)
    only-byte [] x r a e = let z : ◌≡◌ {A = ℕ} 0 1 = cc in absurd (omega arith)
    only-byte (b ∷ bs) x r a e = let p : b ≡ x = cc in let q : bs ≡ r = cc in (cc, subst (λ (n : ℕ). is_byte n ≡ true) p (and_left _ _ a))

-- the same of one byte, in its own words
pub get1-only : (bs : List ℕ) (x : ℕ) (r : List ℕ) → all is_byte bs ≡ true → get1 bs ≡ got x r → (bs ≡ x ∷ r) × (x < 256) × (all is_byte r ≡ true)
unfolding byte all
get1-only bs x r a e =
    let w = lawful-byte.only bs x r a e in
    (w.0, ltb-true _ _ w.1, all_rest is_byte (x ∷ []) r (subst (λ (l : List ℕ). all is_byte l ≡ true) w.0 a))

two_digits : (a b : ℕ) → a < 256 → b < 256 → be2 (join a b) ≡ a ∷ b ∷ []
unfolding be2
two_digits a b p q =
    let u : (a * 256 + b) / 256 % 256 ≡ a = omega arith in
    let v : (a * 256 + b) % 256 ≡ b = omega arith in
    cc

pub get2-only : (bs : List ℕ) (x : ℕ) (r : List ℕ) → all is_byte bs ≡ true → get2 bs ≡ got x r → (bs ≡ be2 x ++ r) × (x < 65536) × (all is_byte r ≡ true)
unfolding get2
get2-only bs x r l e =
    let (a, q, f, g) = after-got (get1 bs) _ x r e in
    let (b, o, h, i) = after-got (get1 q) _ x r g in
    let u = get1-only bs a q l f in
    let v = get1-only q b o u.2 h in
    let m : join a b ≡ x = cc in
    let n : o ≡ r = cc in
    let k : be2 x ≡ a ∷ b ∷ [] = ap be2 (sym m) ∙ two_digits a b u.1 v.1 in
    (u.0 ∙ rw (v.0, k, n), omega (arith, u.1, v.1, m), subst (λ (t : List ℕ). all is_byte t ≡ true) n v.2)

pub lawful-word : Lawful word
unfolding word get2 get1 be2 after
lawful-word =
    record {
      reads = λ x r h. ap (λ (n : ℕ). got n r) (omega (arith, ltb-true x 65536 h));
      only = λ bs x r a e. let w = get2-only bs x r a e in (w.0, lt-ltb _ _ w.1);
    }

four-digits : (a b : ℕ) → a < 65536 → b < 65536 → be4 (a * 65536 + b) ≡ be2 a ++ be2 b
unfolding be2 be4
four-digits a b p q =
    let u : (a * 65536 + b) / 16777216 % 256 ≡ a / 256 % 256 = omega arith in
    let v : (a * 65536 + b) / 65536 % 256 ≡ a % 256 = omega arith in
    let w : (a * 65536 + b) / 256 % 256 ≡ b / 256 % 256 = omega arith in
    let z : (a * 65536 + b) % 256 ≡ b % 256 = omega arith in
    cc

digits-four : (n : ℕ) → n < 4294967296 → (n / 16777216 % 256 * 256 + n / 65536 % 256) * 65536 + (n / 256 % 256 * 256 + n % 256) ≡ n
digits-four n h =
    let a : n / 16777216 % 256 * 256 + n / 65536 % 256 ≡ n / 65536 = omega arith in
    let b : n / 256 % 256 * 256 + n % 256 ≡ n % 65536 = omega arith in
    let c : n / 65536 * 65536 + n % 65536 ≡ n = omega arith in
    rw (a, b) c

pub get4-only : (bs : List ℕ) (x : ℕ) (r : List ℕ) → all is_byte bs ≡ true → get4 bs ≡ got x r → (bs ≡ be4 x ++ r) × (x < 4294967296)
unfolding get4
get4-only bs x r l e =
    let (a, q, f, g) = after-got (get2 bs) _ x r e in
    let (b, o, h, i) = after-got (get2 q) _ x r g in
    let u = get2-only bs a q l f in
    let v = get2-only q b o u.2 h in
    let m : a * 65536 + b ≡ x = cc in
    let n : o ≡ r = cc in
    let k : be4 x ≡ be2 a ++ be2 b = ap be4 (sym m) ∙ four-digits a b u.1 v.1 in
    (u.0 ∙ rw (v.0, k, n) (sym (append_assoc (be2 a) (be2 b) r)), omega (arith, u.1, v.1, m))

pub lawful-long : Lawful long
unfolding long get4 get2 get1 be4 after
lawful-long =
    record {
      reads = λ x r h. ap (λ (n : ℕ). got n r) (digits-four x (ltb-true x 4294967296 h));
      only = λ bs x r a e. let w = get4-only bs x r a e in (w.0, lt-ltb _ _ w.1);
    }

run-reads : (n : ℕ) (l r : List ℕ) → length l ≡ n → get_run n (l ++ r) ≡ got l r
unfolding get_run after
run-reads zero [] r e = refl
run-reads zero (b ∷ l) r e = absurd (omega arith)
run-reads (suc n) [] r e = absurd (omega arith)
run-reads (suc n) (b ∷ l) r e = rw (run-reads n l r (omega arith))

run-back : (b : ℕ) (bs m q l r : List ℕ) → b ∷ m ≡ l → q ≡ r → bs ≡ m ++ q → b ∷ bs ≡ l ++ r
run-back b bs m q l r p o e = rw (← p, ← o, e)

run_only : (n : ℕ) (bs l r : List ℕ) → get_run n bs ≡ got l r → (bs ≡ l ++ r) × (length l ≡ n)
unfolding get_run
run_only zero bs l r e = let p : [] ≡ l = cc in let q : bs ≡ r = cc in (rw (← p) q, ap length (sym p))
run_only (suc n) [] l r e = let z : ◌≡◌ {A = ℕ} 0 1 = cc in absurd (omega arith)
run_only (suc n) (b ∷ bs) l r e =
    let (m, q, f, g) = after-got (get_run n bs) _ l r e in
    let p : b ∷ m ≡ l = cc in
    let o : q ≡ r = cc in
    let w = run_only n bs m q f in
    (run-back b bs m q l r p o w.0, ap length (sym p) ∙ ap suc w.1)

pub lawful-run : (n : ℕ) → Lawful (run n)
unfolding run
lawful-run n =
    record {
      reads = λ x r h. run-reads n x r (eqb-true _ _ h);
      only = λ bs x r a e. let w = run_only n bs x r e in (w.0, eq-eqb _ _ w.1);
    }

then-back : {A B : Type 0} (c : Codec A) (f : A → Codec B) (bs q o r : List ℕ) (a : A) (b : B) (x : A × B) → (a, b) ≡ x → o ≡ r → bs ≡ c.put a ++ q → c.fine a ≡ true → q ≡ (f a).put b ++ o → (f a).fine b ≡ true → (bs ≡ (then c f).put x ++ r) × ((then c f).fine x ≡ true)
unfolding then
then-back c f bs q o r a b x m n g i h j = (rw (← m, ← n, g, h) (sym (append_assoc (c.put a) ((f a).put b) o)), rw (← m) (both_true i j))

pub lawful_then : {A B : Type 0} (c : Codec A) (f : A → Codec B) → Lawful c → ((a : A) → Lawful (f a)) → Lawful (then c f)
unfolding then after
lawful_then c f u v =
    record {
      reads = λ x r h.
          rw (append_assoc (c.put x.0) ((f x.0).put x.1) r, u.reads x.0 ((f x.0).put x.1 ++ r) (and_left _ _ h))
          (rw ((v x.0).reads x.1 r (and_right (c.fine x.0) _ h)));
      only = λ bs x r l e.
          let (a, q, g, h) = after-got (c.get bs) _ x r e in
          let (b, o, i, j) = after-got ((f a).get q) _ x r h in
          let m : (a, b) ≡ x = cc in
          let n : o ≡ r = cc in
          let s = u.only bs a q l g in
          let t = (v a).only q b o (all_rest is_byte (c.put a) q (subst (λ (k : List ℕ). all is_byte k ≡ true) s.0 l)) i in
          then-back c f bs q o r a b x m n s.0 s.1 t.0 t.1;
    }

pub lawful_both : {A B : Type 0} (c : Codec A) (d : Codec B) → Lawful c → Lawful d → Lawful (both c d)
lawful_both c d u v = lawful_then c (λ a. d) u (λ a. v)

those-got : {A : Type 0} (b : Bool) (a x : A) (q r : List ℕ) → pick b (got a q) bad ≡ got x r → (b ≡ true) × (a ≡ x) × (q ≡ r)
those-got true a x q r e = (refl, cc, cc)
those-got false a x q r e = let z : ◌≡◌ {A = ℕ} 0 1 = cc in absurd (omega arith)

those-back : {A : Type 0} (t : A → Bool) (c : Codec A) (bs q r : List ℕ) (a x : A) → a ≡ x → q ≡ r → bs ≡ c.put a ++ q → c.fine a ≡ true → t a ≡ true → (bs ≡ (those t c).put x ++ r) × ((those t c).fine x ≡ true)
unfolding those
those-back t c bs q r a x m n g h i = (g ∙ rw (m, n), rw (← m) (both_true i h))

pub lawful-those : {A : Type 0} (t : A → Bool) (c : Codec A) → Lawful c → Lawful (those t c)
unfolding those after
lawful-those t c u =
    record {
      reads = λ x r h. rw (u.reads x r (and_right (t x) _ h)) (ap (λ (b : Bool). pick b (got x r) bad) (and_left (t x) (c.fine x) h));
      only = λ bs x r l e.
          let (a, q, g, h) = after-got (c.get bs) _ x r e in
          let (i, m, n) = those-got (t a) a x q r h in
          let s = u.only bs a q l g in
          those-back t c bs q r a x m n s.0 s.1 i;
    }

via-back : {A B : Type 0} (to : A → B) (from : B → A) (ok : B → Bool) (c : Codec A) (bs q r : List ℕ) (a : A) (x : B) → to a ≡ x → q ≡ r → bs ≡ c.put a ++ q → c.fine a ≡ true → from (to a) ≡ a → ok (to a) ≡ true → (bs ≡ (via to from ok c).put x ++ r) × ((via to from ok c).fine x ≡ true)
unfolding via
via-back to from ok c bs q r a x m n g h i j = (g ∙ rw (← m, ← n) (ap (λ (y : _). c.put y ++ q) (sym i)), rw (← m) (both_true j (ap c.fine i ∙ h)))

-- both ways there and back
pub lawful-via : {A B : Type 0} (to : A → B) (from : B → A) (ok : B → Bool) (c : Codec A) → ((b : B) → ok b ≡ true → to (from b) ≡ b) → ((a : A) → c.fine a ≡ true → (from (to a) ≡ a) × (ok (to a) ≡ true)) → Lawful c → Lawful (via to from ok c)
unfolding via after
lawful-via to from ok c there back u =
    record {
      reads = λ x r h. rw (u.reads (from x) r (and_right (ok x) _ h)) (ap (λ (y : _). got y r) (there x (and_left _ _ h)));
      only = λ bs x r l e.
          let (a, q, g, h) = after-got (c.get bs) _ x r e in
          let m : to a ≡ x = cc in
          let n : q ≡ r = cc in
          let s = u.only bs a q l g in
          let t = back a s.1 in
          via-back to from ok c bs q r a x m n s.0 s.1 t.0 t.1;
    }
