use Rattle.texts.proofs.Squares.{row_long, squaring, square-room, square-stored, square-turn}
use Rattle.std.proofs.Common.{arith}
use Rattle.std.proofs.Common.{rules}
use Rattle.texts.proofs.answer.square.Goals as goal

pub loop-row-init : goal.loop-row-init
loop-row-init c = search (squaring, rules)

pub with_row-x-requires : goal.with_row-x-requires
with_row-x-requires c = (square-stored _ _ _ _ c.loop-row.invariant, square-room _ _ _ _ c.loop-row.invariant c.loop-row-test.true (omega arith) (row_long _ _ c.well_formed.0 _ _ (omega arith) c.loop-row-test.true))

pub loop-row-preserved : goal.loop-row-preserved
loop-row-preserved c = square-turn _ _ _ _ c.loop-row.invariant c.loop-row-test.true (omega arith) (row_long _ _ c.well_formed.0 _ _ (omega arith) c.loop-row-test.true) _ c.with_row-x.ensures
