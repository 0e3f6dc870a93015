use Rattle.tables.specs.Slots.{free_entry}
use Rattle.tables.proofs.elements.EntrySlot.is_free.Goals as goal

pub returns : goal.returns
unfolding free_entry
returns c = c.are_free.ensures
