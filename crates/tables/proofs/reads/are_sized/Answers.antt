use Rattle.std.proofs.Common.{rules}
use Rattle.tables.proofs.Known.{sized}
use Rattle.tables.proofs.reads.are_sized.Goals as goal

pub returns : goal.returns
returns c = search (sized, rules)
