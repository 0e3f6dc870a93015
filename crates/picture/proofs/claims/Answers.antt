use Rattle.picture.proofs.Claimed.{claimed}
use Rattle.picture.proofs.claims.Goals as goal

pub returns : goal.returns
returns c = claimed
