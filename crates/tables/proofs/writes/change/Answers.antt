use Rattle.tables.proofs.Written.{changed}
use Rattle.tables.proofs.writes.change.Goals as goal

pub returns : goal.returns
returns g c = changed g.row.N g.T.Slot.zero c.args.l.now c.requires.0 c.args.at c.args.item c.requires.1
