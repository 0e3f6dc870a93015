use Rattle.texts.proofs.Spaces.{resting}
use Rattle.std.proofs.Common.{rules}
use Rattle.texts.proofs.text.put_rest.Goals as goal

pub put_spaced-next-requires : goal.put_spaced-next-requires
put_spaced-next-requires c = search (resting, rules)

pub put_byte-requires : goal.put_byte-requires
put_byte-requires c = search (resting, rules)

pub returns : goal.returns
returns c = search (resting, rules)
