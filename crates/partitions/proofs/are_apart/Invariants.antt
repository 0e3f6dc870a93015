use Rattle.std.proofs.Common.{length, ◌≡◌}
use Rattle.lists.specs.Lists.{apart}
use Rattle.partitions.proofs.are_apart.Given as goal

abbrev pub invariant-loop-first : goal.invariant-loop-first
invariant-loop-first g l = apart g.T.Element.clash l.fn.l ≡ apart g.T.Element.clash l.rest

abbrev pub decreases-loop-first : goal.decreases-loop-first
decreases-loop-first g l = length l.rest
