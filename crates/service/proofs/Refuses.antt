-- The reader fails with a refusal only: no failure bears the number of an acceptance.
use mathlib.Core.Bool.{Bool, false, true}
use mathlib.Core.List.{List, [], ◌∷◌, ◌++◌}
use mathlib.Core.Path.{◌≡◌, refl}
use Prim.Native.Nat.{suc, zero, ℕ}
use lib.Dec.{eqb, ltb}
use lib.ListN.{length}
use Rattle.lists.specs.Lists.{pick}
use Rattle.codec.specs.Codec.{Got, bad, got, none}
use Rattle.protocol.specs.Elements.{is_accepted}
use Rattle.protocol.specs.declared.Refusal.{Refusal}
use Rattle.protocol.specs.declared.Refusal.TheVariants.{CountWrong, FieldOutOfRange}
use Rattle.picture.specs.Picture.{Edition, hd, ed, closing, ended, head_fits, read, read_tables, sections}
use Rattle.picture.specs.Rows.{Read, Row, Table, ◌before◌, body, close, fail, judged, many, marked, more, next, one, read_table}
use Rattle.picture.specs.declared.Head.{Head}

abbrev pub Refuses : {A : Type 0} → Read A → Type 0
Refuses (fail why) = is_accepted why ≡ false
Refuses (more x r) = Unit {0}

refuses-pick : {A : Type 0} (b : Bool) (x y : Read A) → Refuses x → Refuses y → Refuses (pick b x y)
refuses-pick true x y h k = h
refuses-pick false x y h k = k

refuses-next : {A B : Type 0} (g : Read A) (f : A → List ℕ → Read B) → Refuses g → ((x : A) (r : List ℕ) → Refuses (f x r)) → Refuses (next g f)
unfolding next
refuses-next (fail why) f h k = h
refuses-next (more x r) f h k = k x r

module _ {A : Type 0} (w : Row A) where
  refuses-judged : (why : Refusal) → is_accepted why ≡ false → (t : A → Bool) (g : Got A) → Refuses (judged why t g)
  unfolding judged
  refuses-judged why h t none = refl
  refuses-judged why h t bad = refl
  refuses-judged why h t (got x r) = refuses-pick (t x) (more x r) (fail why) tt h

  refuses-body : (why : Refusal) → is_accepted why ≡ false → (t : A → Bool) (bs : List ℕ) → Refuses (body w why t bs)
  unfolding body
  refuses-body why h t bs = refuses-judged why h t _

  refuses-one : (why : Refusal) → is_accepted why ≡ false → (t : A → Bool) (bs : List ℕ) → Refuses (one w why t bs)
  unfolding one
  refuses-one why h t bs = refuses-pick (ltb (length bs) 2) _ _ refl (refuses-pick (marked w bs) _ _ (refuses-body why h t bs) refl)

  refuses-many : (t : List A → A → Bool) (n : ℕ) (earlier : List A) (bs : List ℕ) → Refuses (many w t n earlier bs)
  unfolding many
  refuses-many t zero earlier bs = refuses-pick (marked w bs) _ _ (refuses-next _ _ (refuses-body FieldOutOfRange refl _ bs) (λ x r. refl)) tt
  refuses-many t (suc n) earlier bs =
      refuses-pick (marked w bs) _ _ (refuses-next _ _ (refuses-body FieldOutOfRange refl _ bs) (λ x r. refuses-many t n (earlier ++ x ∷ []) r)) tt

refuses-table : (t : Table Head) (h : Head) (bs : List ℕ) → Refuses (read_table t h bs)
unfolding read_table
refuses-table close h bs = tt
refuses-table (s before t) h bs =
    refuses-next _ _ (refuses-many s.row (s.test h) s.room [] bs) (λ xs r. refuses-next _ _ (refuses-table t h r) (λ c q. tt))

refuses-ended : (n : ℕ) (bs : List ℕ) → Refuses (ended n bs)
unfolding ended
refuses-ended n [] = tt
refuses-ended n (b ∷ bs) = refl

refuses-closing : (n : ℕ) (bs : List ℕ) → Refuses (closing n bs)
unfolding closing
refuses-closing n bs = refuses-next (one ed CountWrong (eqb n) bs) ended (refuses-one ed CountWrong refl (eqb n) bs) refuses-ended

pub refuses-read : (v : Edition) (bs : List ℕ) → Refuses (read v bs)
unfolding read read_tables
refuses-read v bs =
    refuses-next _ _ (refuses-one (hd v) FieldOutOfRange refl head_fits bs)
    (λ h r. refuses-next _ _ (refuses-table (sections v) h r) (λ c q. refuses-next _ _ (refuses-closing _ q) (λ n o. tt)))
