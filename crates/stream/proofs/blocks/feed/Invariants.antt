use Rattle.stream.proofs.Feeding.{Feeding}
use Rattle.feeding.specs.Feed.{midway}
use Rattle.stream.specs.Keeping.{line_of}
use Rattle.stream.proofs.blocks.feed.Given as goal

abbrev pub invariant-loop-b : goal.invariant-loop-b
invariant-loop-b l =
    Feeding (midway (line_of l.initial.line) l.initial.lines (record { «open» = l.initial.running; tables = l.initial.tables })) l.block l.initial.out
    (midway (line_of l.line) l.lines (record { «open» = l.running; tables = l.tables })) l.out l.place l.b-index
