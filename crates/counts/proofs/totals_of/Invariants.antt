use Rattle.counts.proofs.Counting.{Summing}
use Rattle.counts.proofs.totals_of.Given as goal

abbrev pub invariant-loop-p : goal.invariant-loop-p
invariant-loop-p l = Summing l.fn.t l.initial.sums.messages l.sums l.p-index
