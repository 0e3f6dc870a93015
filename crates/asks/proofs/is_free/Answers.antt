use Rattle.lists.proofs.Finds.{somes}
use Rattle.std.proofs.Common.{rules}
use Rattle.asks.proofs.is_free.Goals as goal

pub returns : goal.returns
returns c = search (somes, rules)
