-- The program's sessions as a service of Feed.
use Rattle.rehearsal.specs.Answers.{numbers_of}
use Rattle.sessions.specs.Session.{closed_session, responded}
use Rattle.sessions.specs.declared.Session.{Session}
use Rattle.feeding.specs.Feed.{Midway, Service, start_with}

-- what a session answers to a command, and the session after it
abbrev pub sessions : Service Session
sessions = record { numbers = λ s c. numbers_of (responded s c).numbers; after = λ s c. (responded s c).session }

abbrev pub at_start : Midway Session
at_start = start_with closed_session
