use Rattle.std.proofs.Common.{ℕ, sym}
use lib.ListN.{length-replicate}
use Rattle.stream.proofs.empty_room.Goals as goal

pub returns : goal.returns
returns c = sym (length-replicate {A = ℕ} 851968 0)
