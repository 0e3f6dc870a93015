use Rattle.names.proofs.Laws.{name-zero}
use Rattle.tables.specs.Slots.{zero_entry}
use Rattle.tables.proofs.elements.EntrySlot.zero.Goals as goal

pub returns : goal.returns
unfolding zero_entry
returns c = λ i. record { directory = c.default.ensures.0 i; name = name-zero c.default.result.name c.default.ensures.1.0.0 c.default.ensures.1.0.1 i; partition = c.default.ensures.1.1.0 i; object = c.default.ensures.1.1.1.0 i; number = c.default.ensures.1.1.1.1 i }
