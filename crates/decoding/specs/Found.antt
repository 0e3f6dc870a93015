-- What stands at the front of enough bytes: a value, or none where no value has them.
use Rattle.std.specs.Prelude.{List, ℕ, Option, Some, None}
use Rattle.lists.specs.Lists.{pick}
use Rattle.codec.specs.Codec.{Got, bad, got}
use Rattle.protocol.specs.declared.Kind.{Kind}
use Rattle.picture.specs.Picture.{is_kind, kind_of}

abbrev pub found : {A : Type 0} → Option A → List ℕ → Got A
found (Some x) r = got x r
found None r = bad

-- the kind that a byte says
abbrev pub kind_at : ℕ → Option Kind
kind_at k = pick (is_kind k) (Some (kind_of k)) None
