use Rattle.lines.proofs.Commands.{Gathering}
use Rattle.lines.proofs.arguments.Given as goal

abbrev pub invariant-loop-k : goal.invariant-loop-k
invariant-loop-k l = Gathering l.line l.numbers l.name l.at l.k
