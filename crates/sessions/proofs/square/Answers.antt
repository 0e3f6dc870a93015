use Rattle.sessions.proofs.Responding.{square-stored}
use Rattle.tables.proofs.Known.{sized}
use Rattle.std.proofs.Common.{rules}
use Rattle.sessions.proofs.square.Goals as goal

pub returns : goal.returns
returns c = search (square-stored, sized, rules)
