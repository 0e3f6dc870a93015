use Rattle.advances.proofs.Advancing.{sendings, sent-if-up}
use Rattle.answers.proofs.Applied.{refused-applies}
use Rattle.answers.proofs.Ways.{ready-stored}
use Rattle.tables.proofs.Known.{sized}
use Rattle.std.proofs.Common.{rules}
use Rattle.advances.proofs.Open.send.Goals as goal

pub is_up-requires : goal.is_up-requires
is_up-requires c = search (sendings, sized, rules)

pub returns-then-not-is_up-clause-result_value : goal.returns-then-not-is_up-clause-result_value
returns-then-not-is_up-clause-result_value c = search (sendings, sent-if-up, refused-applies, ready-stored, rules)

pub send_request-requires : goal.send_request-requires
send_request-requires c = search (sendings, rules)

pub returns-clause-result_value : goal.returns-clause-result_value
returns-clause-result_value c = search (sendings, sent-if-up, rules)
