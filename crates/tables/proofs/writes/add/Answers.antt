use Rattle.tables.proofs.Written.{added}
use Rattle.tables.proofs.writes.add.Goals as goal

pub returns : goal.returns
returns g c = added g.row.N g.T.Slot.zero c.args.l.now c.requires.0 c.args.item c.requires.1
