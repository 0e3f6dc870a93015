use Rattle.feeding.proofs.Dividing.{any-blocks}
use Rattle.feeding.proofs.claims.Goals as goal

pub returns : goal.returns
returns c = record { rehearsed = any-blocks }
