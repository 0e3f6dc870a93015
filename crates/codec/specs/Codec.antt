-- How values stand in bytes, the most significant byte first.
use Rattle.std.specs.Prelude.{Bool, true, ◌&&◌, List, [], ◌∷◌, ◌++◌, ℕ, zero, suc, ◌+◌, ◌*◌, ◌/◌, ◌%◌, ltb, eqb, length}
use Rattle.lists.specs.Lists.{pick}

-- what stands at the front of some bytes: nothing, where they end too early; bytes that no value has; or a value, and the bytes
-- behind it
pub data Got (A : Type 0) : Type 0 where
  none bad : Got A
  got : A → List ℕ → Got A

unfoldable pub after : {A B : Type 0} → Got A → (A → List ℕ → Got B) → Got B
after none f = none
after bad f = bad
after (got x r) f = f x r

-- `put`: the bytes of a value; `get`: the value at the front; `fine`: the values that have bytes
pub record Codec (A : Type 0) : Type 0 where
  pub put : A → List ℕ
  pub get : List ℕ → Got A
  pub fine : A → Bool

abbrev pub is_byte : ℕ → Bool
is_byte b = ltb b 256

-- ---- numbers in one, two and four bytes

unfoldable pub get1 : List ℕ → Got ℕ
get1 [] = none
get1 (a ∷ r) = got a r

abbrev pub join : ℕ → ℕ → ℕ
join a b = a * 256 + b

unfoldable pub get2 : List ℕ → Got ℕ
get2 bs = after (get1 bs) (λ a r. after (get1 r) (λ b q. got (join a b) q))

unfoldable pub get4 : List ℕ → Got ℕ
get4 bs = after (get2 bs) (λ a r. after (get2 r) (λ b q. got (a * 65536 + b) q))

unfoldable pub be2 : ℕ → List ℕ
be2 n = n / 256 % 256 ∷ n % 256 ∷ []

unfoldable pub be4 : ℕ → List ℕ
be4 n = n / 16777216 % 256 ∷ n / 65536 % 256 ∷ n / 256 % 256 ∷ n % 256 ∷ []

unfoldable pub byte : Codec ℕ
byte = record { put = λ n. n ∷ []; get = get1; fine = is_byte }

unfoldable pub word : Codec ℕ
word = record { put = be2; get = get2; fine = λ n. ltb n 65536 }

unfoldable pub long : Codec ℕ
long = record { put = be4; get = get4; fine = λ n. ltb n 4294967296 }

-- ---- n bytes as they are

unfoldable pub get_run : ℕ → List ℕ → Got (List ℕ)
get_run zero bs = got [] bs
get_run (suc n) [] = none
get_run (suc n) (b ∷ bs) = after (get_run n bs) (λ l r. got (b ∷ l) r)

unfoldable pub run : ℕ → Codec (List ℕ)
run n = record { put = λ l. l; get = get_run n; fine = λ l. eqb (length l) n }

-- ---- codecs of codecs

-- a value, and then one whose codec may depend on it
unfoldable pub then : {A B : Type 0} → Codec A → (A → Codec B) → Codec (A × B)
then c f =
    record {
      put = λ p. c.put p.0 ++ (f p.0).put p.1;
      get = λ bs. after (c.get bs) (λ a r. after ((f a).get r) (λ b q. got (a, b) q));
      fine = λ p. c.fine p.0 && (f p.0).fine p.1;
    }

abbrev pub both : {A B : Type 0} → Codec A → Codec B → Codec (A × B)
both c d = then c (λ a. d)

-- the values that pass a test; the bytes of the others are bad
unfoldable pub those : {A : Type 0} → (A → Bool) → Codec A → Codec A
those t c =
    record {
      put = c.put;
      get = λ bs. after (c.get bs) (λ a r. pick (t a) (got a r) bad);
      fine = λ a. t a && c.fine a;
    }

-- the same bytes, read as a value of another type; `ok`: the values that are so read
unfoldable pub via : {A B : Type 0} → (A → B) → (B → A) → (B → Bool) → Codec A → Codec B
via to from ok c =
    record {
      put = λ b. c.put (from b);
      get = λ bs. after (c.get bs) (λ a r. got (to a) r);
      fine = λ b. ok b && c.fine (from b);
    }

-- each value of the other type is so read
abbrev pub always : {A : Type 0} → A → Bool
always x = true
