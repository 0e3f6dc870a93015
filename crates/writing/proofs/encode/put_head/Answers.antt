use Rattle.writing.proofs.Encodes.{encodes}
use Rattle.std.proofs.Common.{rules}
use Rattle.writing.proofs.encode.put_head.Goals as goal

pub returns : goal.returns
returns c = search (encodes, rules)
