use Rattle.writing.proofs.Encodes.{encodes}
use Rattle.std.proofs.Common.{rules}
use Rattle.writing.proofs.encode.RecordToBytes.put.Goals as goal

pub returns : goal.returns
returns c = let laid = rw c.from.ensures at c.put_item.ensures in search (encodes, laid, rules)
