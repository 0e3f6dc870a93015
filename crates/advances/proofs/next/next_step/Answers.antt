use Rattle.lists.proofs.Finds.{somes}
use Rattle.std.proofs.Common.{rules}
use Rattle.advances.proofs.next.next_step.Goals as goal

pub returns : goal.returns
returns c = search (somes, rules)
