use Rattle.texts.proofs.Squares.{pushing}
use Rattle.std.proofs.Common.{rules}
use Rattle.texts.proofs.answer.with_row.Goals as goal

pub offset_bounds-items-x : goal.offset_bounds-items-x
offset_bounds-items-x c = search (pushing, rules)

pub slice_bounds-items-end : goal.slice_bounds-items-end
slice_bounds-items-end c = search (pushing, rules)

pub returns : goal.returns
returns c = search (pushing, rules)
