use Rattle.answers.proofs.Ways.{now-four, now-there}
use Rattle.std.proofs.Common.{rules}
use Rattle.deeds.proofs.Ordered.here.Goals as goal

pub invariant_of-result : goal.invariant_of-result
invariant_of-result c = search (now-there, now-four, rules)
