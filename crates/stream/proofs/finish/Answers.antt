use Rattle.stream.proofs.Turning.{finishing}
use Rattle.std.proofs.Common.{length-take-le}
use Rattle.std.proofs.Common.{rules}
use Rattle.stream.proofs.finish.Goals as goal

pub returns-then-not-has_begun : goal.returns-then-not-has_begun
returns-then-not-has_begun g c = search (finishing, length-take-le, rules)

pub slice_bounds-write_answers-end : goal.slice_bounds-write_answers-end
slice_bounds-write_answers-end g c = search (finishing, length-take-le, rules)

pub slice_bounds-write_answers-end-2 : goal.slice_bounds-write_answers-end-2
slice_bounds-write_answers-end-2 g c = search (finishing, length-take-le, rules)
