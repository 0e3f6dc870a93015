use Rattle.std.proofs.Common.{rules}
use Rattle.lists.specs.Lists as lists
use Rattle.messages.specs.Clauses.{pair_fine}
use Rattle.messages.proofs.Laws.{none-empty}
use Rattle.messages.proofs.pair_in_order.Goals as goal

pub returns-then-messages_in_order : goal.returns-then-messages_in_order
unfolding pair_fine lists.every
returns-then-messages_in_order c = search (none-empty, rules)

pub returns-else-messages_in_order : goal.returns-else-messages_in_order
unfolding pair_fine lists.every
returns-else-messages_in_order c = search (none-empty, rules)
