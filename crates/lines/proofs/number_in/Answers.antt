use Rattle.std.proofs.Common.{rules}
use Rattle.rehearsal.specs.Line.{is_number}
use Rattle.lines.proofs.number_in.Goals as goal

pub returns-then-not-starts_well : goal.returns-then-not-starts_well
unfolding is_number
returns-then-not-starts_well c = search rules

pub returns : goal.returns
unfolding is_number
returns c = search rules
