use Rattle.asks.proofs.Asks.{opening}
use Rattle.answers.proofs.Applied.{changed-applies}
use Rattle.tables.proofs.Known.{sized}
use Rattle.std.proofs.Common.{rules}
use Rattle.asks.proofs.Asked.open.Goals as goal

pub returns-clause-result_value : goal.returns-clause-result_value
returns-clause-result_value c = search (opening, rules)

pub add-requires : goal.add-requires
add-requires c = search (opening, changed-applies, sized, rules)
