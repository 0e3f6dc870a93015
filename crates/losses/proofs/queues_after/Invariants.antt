use Rattle.lists.proofs.Mapped.{Mapping}
use Rattle.losses.specs.Lost.{queue_after}
use Rattle.losses.proofs.queues_after.Given as goal

abbrev pub invariant-loop-i : goal.invariant-loop-i
invariant-loop-i l = Mapping (queue_after l.loss) l.initial.queues l.i l.queues
