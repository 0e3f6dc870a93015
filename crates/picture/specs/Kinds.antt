-- What every kind of record between header and close keeps: its mark is its row's, and of fewer bytes than it has none is read.
use Rattle.std.specs.Prelude.{◌≡◌, ℕ, ◌-◌, ◌<◌, List, [], ◌∷◌, refl}
use Rattle.std.proofs.Common.{arith}
use Rattle.codec.specs.Codec.{always, both, byte, long, run, then}
use Rattle.codec.proofs.Sizes.{Short, Sized, short-those, short-via, sized-both, sized-byte, sized-long, sized-run, sized-then, sized-via}
use Rattle.names.specs.Names.{name_bytes}
use Rattle.picture.specs.Rows.{Row}
use Rattle.picture.specs.Picture.{bp, en, first, item_form, lg, name_form}

pub record RowLaws {A : Type 0} (row : Row A) (mark : List ℕ) (size : ℕ) : Type 0 where
  pub marked : mark ≡ row.first ∷ row.second ∷ []
  pub long : 2 < size
  pub short : Short row.form (size - 2)

sized-name : Sized (name_form first) 9
unfolding name_form
sized-name = sized-via _ _ _ (then byte (λ len. run name_bytes)) 9 (sized-then byte (λ len. run name_bytes) 1 8 sized-byte (λ len. sized-run name_bytes))

pub sized-item : Sized (item_form first) 16
unfolding item_form
sized-item = sized-both byte _ 1 15 sized-byte (sized-both byte _ 1 14 sized-byte (sized-both byte _ 1 13 sized-byte (sized-both (name_form first) long 9 4 sized-name sized-long)))

pub entry_laws : RowLaws (en first) (69 ∷ 78 ∷ []) 18
unfolding en
entry_laws = record { marked = refl; long = omega arith; short = short-via _ _ always (item_form first) 16 sized-item.short }

pub backpointer_laws : RowLaws (bp first) (66 ∷ 80 ∷ []) 18
unfolding bp
backpointer_laws = record { marked = refl; long = omega arith; short = short-via _ _ always (item_form first) 16 sized-item.short }

pub record_laws : RowLaws (lg first) (76 ∷ 71 ∷ []) 19
unfolding lg
record_laws = record {
  marked = refl;
  long = omega arith;
  short = short-via _ _ _ _ 17 (short-those _ (both byte (item_form first)) 17 (sized-both byte (item_form first) 1 16 sized-byte sized-item).short);
}
