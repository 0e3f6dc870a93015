use Rattle.sessions.proofs.Responding.{openings}
use Rattle.std.proofs.Common.{rules}
use Rattle.sessions.proofs.open.Goals as goal

pub returns-then-not-matches : goal.returns-then-not-matches
returns-then-not-matches c = search (openings, rules)

pub returns : goal.returns
returns c = search (openings, rules)
