use Rattle.tables.specs.Slots.{free_backpointer}
use Rattle.tables.proofs.elements.BackpointerSlot.is_free.Goals as goal

pub returns : goal.returns
unfolding free_backpointer
returns c = c.are_free.ensures
