use Rattle.std.proofs.Common.{ap, nat_eq}
use Rattle.tables.proofs.Slots.{record-free}
use Rattle.tables.proofs.elements.RecordSlot.is_free.Goals as goal

pub returns : goal.returns
returns c = record-free _ _ _ c.args.self.now c.are_free.ensures (ap (λ n. nat_eq n 1) c.kind_number.ensures) c.is_ready.ensures
