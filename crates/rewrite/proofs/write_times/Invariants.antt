use Rattle.std.proofs.Common.{◌≡◌}
use Rattle.writing.specs.Written.{after}
use Rattle.rewrite.specs.Again.{again}
use Rattle.rewrite.proofs.write_times.Given as goal

abbrev pub invariant-loop-time : goal.invariant-loop-time
invariant-loop-time l = after l.told l.room ≡ again l.t l.p l._time l.initial.room
