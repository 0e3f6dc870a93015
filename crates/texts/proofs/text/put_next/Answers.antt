use Rattle.texts.proofs.Buffers.{nexts}
use Rattle.std.proofs.Common.{rules}
use Rattle.texts.proofs.text.put_next.Goals as goal

pub returns : goal.returns
returns c = search (nexts, rules)
