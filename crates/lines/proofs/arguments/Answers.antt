use Rattle.lines.proofs.Commands.{gathering, gather-nameless, gather-numberless}
use Rattle.std.proofs.Common.{rules}
use Rattle.lines.proofs.arguments.Goals as goal

pub loop-k-init : goal.loop-k-init
loop-k-init c = search (gathering, rules)

pub returns-then-line-at : goal.returns-then-line-at
returns-then-line-at c = search (gathering, rules)

pub returns-in_err-numbers : goal.returns-in_err-numbers
returns-in_err-numbers c = rw c.from_residual.ensures (gather-numberless _ _ c.requires.row _ _ _ _ c.loop-k.invariant c.loop-k-test.true c.if-line-at.false _ c.word_at-word.ensures _ c.eq.ensures c.if-eq.false _ c.number_in.ensures c.in_err-numbers.was)

pub offset_bounds-numbers-k : goal.offset_bounds-numbers-k
offset_bounds-numbers-k c = search (gathering, rules)

pub bounds-numbers-k : goal.bounds-numbers-k
bounds-numbers-k c = search (gathering, rules)

pub returns-then-is_empty : goal.returns-then-is_empty
returns-then-is_empty c = gather-nameless _ _ c.requires.row _ _ _ _ c.loop-k.invariant c.loop-k-test.true c.if-line-at.false _ c.word_at-word.ensures _ c.eq.ensures c.if-eq.true (search rules)

pub loop-k-preserved : goal.loop-k-preserved
loop-k-preserved c = search (gathering, rules)

pub returns-then-at-line : goal.returns-then-at-line
returns-then-at-line c = search (gathering, rules)

pub returns : goal.returns
returns c = search (gathering, rules)
