use Rattle.std.proofs.Common.{rules}
use Rattle.messages.proofs.Laws.{answereds}
use Rattle.tables.proofs.Rooms.{kept-few}
use Rattle.messages.proofs.record_answered.Goals as goal

pub returns-then-not-is_sent : goal.returns-then-not-is_sent
returns-then-not-is_sent c = search (answereds, rules)

pub overflow_add-result : goal.overflow_add-result
overflow_add-result c = search (kept-few, rules)

pub returns : goal.returns
returns c = search (answereds, rules)
