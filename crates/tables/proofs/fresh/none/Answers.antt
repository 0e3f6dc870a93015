use Rattle.tables.proofs.Written.{none-packed}
use Rattle.tables.proofs.fresh.none.Goals as goal

pub returns : goal.returns
returns g c = none-packed g.row.N g.T.Slot.zero c.zero.result c.zero.ensures
