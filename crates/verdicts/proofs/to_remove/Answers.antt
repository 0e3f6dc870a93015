use Rattle.verdicts.proofs.Verdicts.{exacts}
use Rattle.std.proofs.Common.{rules}
use Rattle.verdicts.proofs.to_remove.Goals as goal

pub returns : goal.returns
returns c = search (exacts, rules)

pub returns-then-is_some : goal.returns-then-is_some
returns-then-is_some c = search (exacts, rules)
