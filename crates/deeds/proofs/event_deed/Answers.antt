use Rattle.answers.proofs.Ways.{now-ready}
use Rattle.std.proofs.Common.{rules}
use Rattle.deeds.proofs.event_deed.Goals as goal

pub invariant_of-done_to : goal.invariant_of-done_to
invariant_of-done_to c = search (now-ready, rules)
