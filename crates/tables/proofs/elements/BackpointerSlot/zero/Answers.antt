use Rattle.names.proofs.Laws.{name-zero}
use Rattle.tables.specs.Slots.{zero_backpointer}
use Rattle.tables.proofs.elements.BackpointerSlot.zero.Goals as goal

pub returns : goal.returns
unfolding zero_backpointer
returns c = λ i. record { object = c.default.ensures.0 i; parent = c.default.ensures.1.0 i; directory = c.default.ensures.1.1.0 i; name = name-zero c.default.result.name c.default.ensures.1.1.1.0.0 c.default.ensures.1.1.1.0.1 i; number = c.default.ensures.1.1.1.1 i }
