use Rattle.deeds.proofs.Doing.{refusal-done}
use Rattle.std.proofs.Common.{rules}
use Rattle.deeds.proofs.Ordered.refused.Goals as goal

pub returns : goal.returns
returns c = search (refusal-done, rules)
