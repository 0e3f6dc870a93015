use Rattle.decoding.proofs.Fields.{entry-fields}
use Rattle.decoding.proofs.EntryFromBytes.from_bytes.Goals as goal

pub returns : goal.returns
returns c = rw c.from.ensures (entry-fields c.args.s.now _ c.item_at.ensures)
