-- What is proved of these definitions: the statement that the contract of `claims` gathers.
use Rattle.std.specs.Prelude.{List, ◌≡◌, ◌<◌, ◌^◌, ℕ, length}
use Rattle.rehearsal.specs.Rehearsal.{rehearsal}
use Rattle.feeding.specs.Feed.{joined, said_all}
use Rattle.feeding.specs.Sessions.{at_start, sessions}

-- from its start on, and whatever the blocks in which an input comes, what the program says to them is the rehearsal of the input;
-- past 2 ^ 64 bytes a line's number would not have room
pub record AnyBlocks : Type 0 where
  pub rehearsed : (blocks : List (List ℕ)) → length (joined blocks) < 2 ^ 64 → said_all sessions at_start blocks ≡ rehearsal (joined blocks)
