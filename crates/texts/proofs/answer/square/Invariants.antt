use Rattle.texts.proofs.Squares.{Squaring}
use Rattle.texts.proofs.answer.square.Given as goal

abbrev pub invariant-loop-row : goal.invariant-loop-row
invariant-loop-row l = Squaring l.fn.lengths l.side l.x l.row-index
