use Rattle.texts.proofs.Spaces.{Spacing}
use Rattle.texts.proofs.text.spaced_size.Given as goal

abbrev pub invariant-loop-n : goal.invariant-loop-n
invariant-loop-n l = Spacing l.numbers l.size l.n-index
