use Rattle.lists.proofs.Finds.{somes}
use Rattle.std.proofs.Common.{rules}
use Rattle.asks.proofs.is_unopened.Goals as goal

pub returns : goal.returns
returns c = search (somes, rules)
