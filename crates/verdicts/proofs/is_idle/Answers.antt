use Rattle.lists.proofs.Finds.{somes}
use Rattle.std.proofs.Common.{rules}
use Rattle.verdicts.proofs.is_idle.Goals as goal

pub returns : goal.returns
returns c = search (somes, rules)
