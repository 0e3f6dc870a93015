use Rattle.reader.proofs.Walks.{walk-reads}
use Rattle.reader.proofs.claims.Goals as goal

pub returns : goal.returns
returns c = walk-reads
