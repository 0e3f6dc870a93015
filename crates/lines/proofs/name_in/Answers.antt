use Rattle.lines.proofs.Spellings.{spelled}
use Rattle.std.proofs.Common.{rules}
use Rattle.lines.proofs.name_in.Goals as goal

pub returns : goal.returns
returns c = spelled _ _ _ _ c.min.ensures c.min-kept.ensures (search rules)
