use Rattle.names.proofs.Laws.{name-zero}
use Rattle.names.proofs.zero.Goals as goal

pub returns : goal.returns
returns c = name-zero c.default.result c.default.ensures.0 c.default.ensures.1
