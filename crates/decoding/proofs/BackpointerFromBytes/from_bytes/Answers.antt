use Rattle.decoding.proofs.Fields.{backpointer-fields}
use Rattle.decoding.proofs.BackpointerFromBytes.from_bytes.Goals as goal

pub returns : goal.returns
returns c = rw c.from.ensures (backpointer-fields c.args.s.now _ c.item_at.ensures)
