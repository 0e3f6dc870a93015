use Rattle.std.proofs.Common.{rules}
use Rattle.tables.proofs.Written.{removed}
use Rattle.tables.proofs.writes.remove.Goals as goal

pub returns : goal.returns
returns g c = removed g.row.N g.T.Slot.zero c.args.l.now c.requires.0 c.args.at c.copy_within.new.self c.zero.result c.requires.1 c.requires.2 (search rules) c.copy_within.ensures.after c.zero.ensures
