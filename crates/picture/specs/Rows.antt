-- A picture is a table of kinds of record: each kind has a mark, a form and a bound, and stands behind the one before it.
-- Here are records with a mark, those of one kind one after another, and whole tables of kinds: written and read.
use Rattle.std.specs.Prelude.{Bool, true, false, ◌&&◌, List, [], ◌∷◌, ◌++◌, ℕ, zero, suc, ◌+◌, eqb, leb, ltb, length, drop}
use Rattle.lists.specs.Lists.{pick}
use Rattle.codec.specs.Codec.{Got, none, bad, got, Codec}
use Rattle.protocol.specs.declared.Refusal.{Refusal}
use Rattle.protocol.specs.declared.Refusal.TheVariants.{EndsEarly, MarkNotAllowed, FieldOutOfRange}

-- ---- one record: "a two-byte mark before each record"

pub record Row (A : Type 0) : Type 0 where
  pub first : ℕ
  pub second : ℕ
  pub form : Codec A

unfoldable pub put_row : {A : Type 0} → Row A → A → List ℕ
put_row w x = w.first ∷ w.second ∷ w.form.put x

unfoldable pub put_rows : {A : Type 0} → Row A → List A → List ℕ
put_rows w [] = []
put_rows w (x ∷ xs) = put_row w x ++ put_rows w xs

-- reading: a refusal, or what is read and the bytes behind it
pub data Read (A : Type 0) : Type 0 where
  fail : Refusal → Read A
  more : A → List ℕ → Read A

unfoldable pub next : {A B : Type 0} → Read A → (A → List ℕ → Read B) → Read B
next (fail why) f = fail why
next (more x r) f = f x r

-- the bytes begin with these two
unfoldable pub begins : ℕ → ℕ → List ℕ → Bool
begins x y [] = false
begins x y (a ∷ []) = false
begins x y (a ∷ b ∷ r) = eqb a x && eqb b y

abbrev pub marked : {A : Type 0} → Row A → List ℕ → Bool
marked w bs = begins w.first w.second bs

unfoldable pub judged : {A : Type 0} → Refusal → (A → Bool) → Got A → Read A
judged why t none = fail EndsEarly
judged why t bad = fail FieldOutOfRange
judged why t (got x r) = pick (t x) (more x r) (fail why)

-- a record whose mark is known: "record short 17", then `why` where it fails the test
unfoldable pub body : {A : Type 0} → Row A → Refusal → (A → Bool) → List ℕ → Read A
body w why t bs = judged why t (w.form.get (drop 2 bs))

-- exactly one record of the kind: "under two bytes left 17, mark 18", and the rest
unfoldable pub one : {A : Type 0} → Row A → Refusal → (A → Bool) → List ℕ → Read A
one w why t bs = pick (ltb (length bs) 2) (fail EndsEarly) (pick (marked w bs) (body w why t bs) (fail MarkNotAllowed))

-- ---- the records of one kind that follow, behind those in `earlier`: each passes the test after those before it, "fields and
-- number of its kind 19"; a foreign mark ends them

unfoldable pub many : {A : Type 0} → Row A → (List A → A → Bool) → ℕ → List A → List ℕ → Read (List A)
many w t zero earlier bs = pick (marked w bs) (next (body w FieldOutOfRange (λ x. false) bs) (λ x r. fail FieldOutOfRange)) (more earlier bs)
many w t (suc n) earlier bs = pick (marked w bs) (next (body w FieldOutOfRange (t earlier) bs) (λ x r. many w t n (earlier ++ x ∷ []) r)) (more earlier bs)

-- the lists that are so read
unfoldable pub fits : {A : Type 0} → Row A → (List A → A → Bool) → List A → List A → Bool
fits w t earlier [] = true
fits w t earlier (x ∷ xs) = (w.form.fine x && t earlier x) && fits w t (earlier ++ x ∷ []) xs

-- ---- a table of sections, in their order, under a header h of type H

-- the section of a kind: its row, how many may stand in a picture, and the test of one after those before it
pub record Section (H : Type 0) : Type 1 where
  pub Item : Type 0
  pub row : Row Item
  pub room : ℕ
  pub test : H → List Item → Item → Bool

infixr 20 ◌before◌
pub data Table (H : Type 0) : Type 1 where
  close : Table H
  ◌before◌ : Section H → Table H → Table H

module _ {H : Type 0} where
  -- the records of each kind
  abbrev pub Contents : Table H → Type 0
  Contents close = Unit
  Contents (s before t) = List s.Item × Contents t

  unfoldable pub put_table : (t : Table H) → Contents t → List ℕ
  put_table close c = []
  put_table (s before t) c = put_rows s.row c.0 ++ put_table t c.1

  unfoldable pub read_table : (t : Table H) → H → List ℕ → Read (Contents t)
  read_table close h bs = more tt bs
  read_table (s before t) h bs = next (many s.row (s.test h) s.room [] bs) (λ xs r. next (read_table t h r) (λ c q. more (xs, c) q))

  -- how many records there are
  unfoldable pub counted : (t : Table H) → Contents t → ℕ
  counted close c = 0
  counted (s before t) c = length c.0 + counted t c.1

  -- the contents that are so read
  unfoldable pub fitting : (t : Table H) → H → Contents t → Bool
  fitting close h c = true
  fitting (s before t) h c = (fits s.row (s.test h) [] c.0 && leb (length c.0) s.room) && fitting t h c.1
