use Rattle.answers.proofs.Applied.{applying}
use Rattle.tables.proofs.Known.{sized}
use Rattle.std.proofs.Common.{rules}
use Rattle.answers.proofs.changes.apply.Goals as goal

pub returns : goal.returns
returns c = search (applying, sized, rules)

pub taken_if-requires : goal.taken_if-requires
taken_if-requires c = search (applying, sized, rules)

pub sent_if-requires : goal.sent_if-requires
sent_if-requires c = search (applying, sized, rules)
