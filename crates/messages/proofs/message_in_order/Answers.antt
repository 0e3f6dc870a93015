use Rattle.std.proofs.Common.{rules}
use Rattle.messages.specs.Clauses.{message_fine}
use Rattle.messages.proofs.message_in_order.Goals as goal

pub returns-then-not-body_fits : goal.returns-then-not-body_fits
unfolding message_fine
returns-then-not-body_fits c = search rules

pub returns-then-is_request : goal.returns-then-is_request
unfolding message_fine
returns-then-is_request c = search rules

pub returns-else-is_request : goal.returns-else-is_request
unfolding message_fine
returns-else-is_request c = search rules
