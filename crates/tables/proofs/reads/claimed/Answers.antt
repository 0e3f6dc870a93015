use Rattle.std.proofs.Common.{rules}
use Rattle.tables.proofs.Rooms.{claimed-sum}
use Rattle.tables.proofs.reads.claimed.Goals as goal

pub returns : goal.returns
returns c = search (claimed-sum, rules)
