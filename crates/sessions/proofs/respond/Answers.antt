use Rattle.sessions.proofs.Responding.{responses}
use Rattle.std.proofs.Common.{rules}
use Rattle.sessions.proofs.respond.Goals as goal

pub returns-then-not-s : goal.returns-then-not-s
returns-then-not-s c = search (responses, rules)

pub returns : goal.returns
returns c = search (responses, rules)
