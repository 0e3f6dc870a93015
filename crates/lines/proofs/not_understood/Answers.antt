use Rattle.lists.specs.Lists.{pad}
use Rattle.rehearsal.specs.Line.{not_understood}
use Rattle.lines.proofs.not_understood.Goals as goal

pub returns : goal.returns
unfolding not_understood pad
returns c = cc
