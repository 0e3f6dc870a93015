use Rattle.sessions.proofs.Sessions.{first-closed, first-orderly, session-agrees}
use Rattle.sessions.proofs.claims.Goals as goal

pub returns : goal.returns
returns c = record { first = first-closed; orderly = first-orderly; agrees = session-agrees }
