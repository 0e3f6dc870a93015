use Rattle.tables.proofs.Known.{records-length}
use Rattle.losses.proofs.Loses.{records-lost}
use Rattle.std.proofs.Common.{rules}
use Rattle.losses.proofs.relapse_records.Goals as goal

pub loop-i-init : goal.loop-i-init
loop-i-init c = search (records-lost, rules)

pub loop-i-preserved : goal.loop-i-preserved
loop-i-preserved c = search (records-lost, records-length, rules)

pub returns : goal.returns
returns c = search (records-lost, records-length, rules)
