use Rattle.lists.proofs.Chains.{everys}
use Rattle.picture.specs.Picture.{head_fits}
use Rattle.std.proofs.Common.{rules}
use Rattle.decoding.proofs.head.fits.Goals as goal

pub returns-then-from-le-MAX_PARTITIONS : goal.returns-then-from-le-MAX_PARTITIONS
unfolding head_fits
returns-then-from-le-MAX_PARTITIONS c = search (everys, rules)

pub returns-else-from-le-MAX_PARTITIONS : goal.returns-else-from-le-MAX_PARTITIONS
unfolding head_fits
returns-else-from-le-MAX_PARTITIONS c = search (everys, rules)
