use Rattle.tables.proofs.Known.{sized}
use Rattle.losses.proofs.Loses.{tables-left}
use Rattle.std.proofs.Common.{rules}
use Rattle.losses.proofs.lose.Goals as goal

pub returns : goal.returns
returns c = search (tables-left, sized, rules)
