use Rattle.asks.proofs.Asks.{open-records}
use Rattle.asks.proofs.Unlinks.{unlinktables}
use Rattle.answers.proofs.Applied.{changed-applies}
use Rattle.tables.proofs.Known.{sized}
use Rattle.std.proofs.Common.{rules}
use Rattle.asks.proofs.open_unlink.Goals as goal

pub returns-clause-result_value : goal.returns-clause-result_value
returns-clause-result_value c = search (unlinktables, rules)

pub add-requires : goal.add-requires
add-requires c = search (unlinktables, open-records, changed-applies, sized, rules)
