use Rattle.texts.proofs.Spaces.{Putting}
use Rattle.texts.proofs.text.put_spaced.Given as goal

abbrev pub invariant-loop-n : goal.invariant-loop-n
invariant-loop-n l = Putting l.initial.out l.at l.numbers l.out l.next l.n-index
