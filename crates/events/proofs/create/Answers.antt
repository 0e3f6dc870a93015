use Rattle.answers.proofs.Calls.{calls}
use Rattle.answers.proofs.Ways.{now-ready}
use Rattle.tables.proofs.Known.{sized}
use Rattle.std.proofs.Common.{rules}
use Rattle.events.proofs.create.Goals as goal

pub returns : goal.returns
returns c = search (calls, now-ready, sized, rules)
