use Rattle.losses.proofs.Loses.{queue-empties, queue-stays, queues-lost}
use Rattle.std.proofs.Common.{rules}
use Rattle.losses.proofs.queues_after.Goals as goal
use Rattle.losses.proofs.queues_after.Goals.{then-empties, else-empties}

pub loop-i-init : goal.loop-i-init
loop-i-init c = search (queues-lost, rules)

pub loop-i-preserved : goal.loop-i-preserved
loop-i-preserved c =
    elim c.if-empties.branch [
      | then-empties w ↦ search (queue-empties, w.if-empties.true, w.queues-is, rules)
      | else-empties w ↦ search (queue-stays, w.if-empties.false, w.queues-is, rules)
    ]
