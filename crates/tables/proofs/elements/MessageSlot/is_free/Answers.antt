use Rattle.std.proofs.Common.{ap, nat_eq}
use Rattle.tables.proofs.Slots.{message-free}
use Rattle.tables.proofs.elements.MessageSlot.is_free.Goals as goal

pub returns : goal.returns
returns c = message-free _ _ _ c.args.self.now c.are_free.ensures (ap (λ n. nat_eq n 1) c.kind_number.ensures) c.is_request.ensures
