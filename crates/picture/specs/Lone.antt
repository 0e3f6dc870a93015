-- The check of a lone picture (document 01, 'The picture').
use Rattle.std.specs.Prelude.{Bool, List, [], ◌∷◌, ℕ, Result, Ok, Err}
use Rattle.lists.specs.Lists.{pick, every}
use Rattle.protocol.specs.declared.Refusal.{Refusal}
use Rattle.protocol.specs.declared.Refusal.TheVariants.{Accepted, OutOfOrder}
use Rattle.protocol.specs.Tables.{Partition}
use Rattle.protocol.specs.Order.{entries_apart, records_apart, room_kept, backpointers_apart}
use Rattle.picture.specs.Rows.{Read, fail, more}
use Rattle.picture.specs.Picture.{Picture, first, read}

-- "O2, O3, O5 and the first half of O4": what one partition's tables show alone
unfoldable pub order_alone : Partition → Bool
order_alone x = every (entries_apart x ∷ records_apart x ∷ room_kept x ∷ backpointers_apart x ∷ [])

unfoldable pub judged_alone : Read Picture → Refusal
judged_alone (fail why) = why
judged_alone (more x r) = pick (order_alone x.tables) Accepted OutOfOrder

-- "Checking a lone picture gives 17 to 21, then 16"
unfoldable pub lone : List ℕ → Refusal
lone bs = judged_alone (read first bs)

-- the same as a result, and its refusal
unfoldable pub checked_alone : Read Picture → Result Unit Refusal
checked_alone (fail why) = Err why
checked_alone (more x r) = pick (order_alone x.tables) (Ok tt) (Err OutOfOrder)

unfoldable pub checked : List ℕ → Result Unit Refusal
checked bs = checked_alone (read first bs)

abbrev pub refusal_of : Result Unit Refusal → Refusal
refusal_of (Ok u) = Accepted
refusal_of (Err why) = why
