-- What the writer does with the stored tables and the lent room: what it reports, and every byte of the room after it.
use Rattle.std.specs.Prelude.{ℕ, List, Result}
use Rattle.lists.specs.Lists.{pick}
use Rattle.protocol.specs.declared.Refusal.{Refusal}
use Rattle.protocol.specs.declared.Refusal.TheVariants.{OutOfOrder}
use Rattle.tables.specs.View.{shaped, view}
use Rattle.tables.specs.declared.Tables.{Tables}
use Rattle.picture.specs.Store.{Written, store, unwritten}

-- a report and the room after it, as document 01's definition has them together
abbrev pub after : Result ℕ Refusal → List ℕ → Written
after r room = record { told = r; room = room }

-- the picture of partition p, whatever the tables hold; tables that are not shaped are out of order
unfoldable pub written_from : Tables → ℕ → List ℕ → Written
written_from t p room = pick (shaped t) (store (view t) p room) (unwritten OutOfOrder room)
