use Rattle.std.proofs.Common.{rules}
use Rattle.order.specs.Clauses.{pair_at}
use Rattle.order.proofs.pair_in_order.Goals as goal

pub returns : goal.returns
unfolding pair_at
returns c = search rules
