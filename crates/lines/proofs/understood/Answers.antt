use Rattle.lines.proofs.Commands.{lines}
use Rattle.std.proofs.Common.{rules}
use Rattle.lines.proofs.understood.Goals as goal

pub returns-then-line-gt-LINE_BYTES : goal.returns-then-line-gt-LINE_BYTES
returns-then-line-gt-LINE_BYTES c = search (lines, rules)

pub returns-in_default : goal.returns-in_default
returns-in_default c = search (lines, rules)

pub returns-in_default-2 : goal.returns-in_default-2
returns-in_default-2 c = search (lines, rules)

pub returns-in_err-shape_of : goal.returns-in_err-shape_of
returns-in_err-shape_of c = rw c.from_residual.ensures (search (lines, rules))

pub arguments-requires-clause-row : goal.arguments-requires-clause-row
arguments-requires-clause-row c = search (lines, rules)

pub returns : goal.returns
returns c = search (lines, rules)
