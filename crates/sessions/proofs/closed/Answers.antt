use Rattle.sessions.specs.Session.{closed_session}
use Rattle.sessions.proofs.closed.Goals as goal

pub returns : goal.returns
unfolding closed_session
returns c = cc
