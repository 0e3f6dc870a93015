use Rattle.answers.proofs.Applied.{change-stores}
use Rattle.std.proofs.Common.{refl}
use Rattle.stream.proofs.blocks.store.Goals as goal

pub returns : goal.returns
returns c = change-stores _ _ _ refl _ c.taken_if-rest.ensures _ refl _ c.sent_if-more.ensures
