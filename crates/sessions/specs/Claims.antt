-- What is proved of sessions: the statement that the contract of `claims` gives.
use Rattle.std.specs.Prelude.{◌≡◌}
use Rattle.rehearsal.specs.Rehearsal.{closed, respond}
use Rattle.rehearsal.specs.declared.Command.{Command}
use Rattle.sessions.specs.Session.{Agrees, Orderly, Session, closed_session, responded, state_of}

-- from its first line on, a session over the stored tables answers as the rehearsal does over the model
pub record Sessions : Type 0 where
  pub first : state_of closed_session ≡ closed
  pub orderly : Orderly closed_session
  pub agrees : (s : Session) (c : Command) → Orderly s → Agrees (responded s c) (respond (state_of s) c)
