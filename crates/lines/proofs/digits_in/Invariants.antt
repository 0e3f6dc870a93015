use Rattle.lines.proofs.Values.{Valuing}
use Rattle.lines.proofs.digits_in.Given as goal

abbrev pub invariant-loop-b : goal.invariant-loop-b
invariant-loop-b l = Valuing l.word l.value l.b-index
