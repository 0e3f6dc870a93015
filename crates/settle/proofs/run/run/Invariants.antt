use Rattle.std.proofs.Common.{◌-◌}
use Rattle.settle.proofs.Runs.{Running}
use Rattle.settle.proofs.run.run.Given as goal

abbrev pub invariant-loop-taken : goal.invariant-loop-taken
invariant-loop-taken l = Running l.initial.tables l.n (l.n - l._taken) l.tally l.tables
