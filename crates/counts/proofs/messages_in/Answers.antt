use Rattle.counts.proofs.Counting.{mailing}
use Rattle.tables.proofs.Known.{sized}
use Rattle.std.proofs.Common.{rules}
use Rattle.counts.proofs.messages_in.Goals as goal

pub loop-q-init : goal.loop-q-init
loop-q-init c = search (mailing, sized, rules)

pub loop-q-preserved : goal.loop-q-preserved
loop-q-preserved c = search (mailing, sized, rules)

pub returns : goal.returns
returns c = search (mailing, sized, rules)
