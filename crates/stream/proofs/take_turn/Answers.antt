use Rattle.stream.proofs.Turning.{place_inside}
use Rattle.std.proofs.Common.{length-take-le}
use Rattle.std.proofs.Common.{rules}
use Rattle.stream.proofs.take_turn.Goals as goal

pub slice_bounds-write_answers-end : goal.slice_bounds-write_answers-end
slice_bounds-write_answers-end g c = search (place_inside, length-take-le, rules)

pub slice_bounds-write_answers-end-2 : goal.slice_bounds-write_answers-end-2
slice_bounds-write_answers-end-2 g c = search (place_inside, length-take-le, rules)
