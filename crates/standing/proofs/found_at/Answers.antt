use Rattle.std.proofs.lemmas.Result.{err_from_is_err_and}
use Rattle.standing.proofs.Standings.{stand-bad, stand-fail, stand-head, stand-next, stand-off, stand-past}
use Rattle.standing.proofs.found_at.Goals as goal

pub returns-in_err-head : goal.returns-in_err-head
returns-in_err-head c =
    let p = err_from_is_err_and c.from_residual.result c.from_residual.ensures.1 in
    rw (p.1, p.2) (stand-fail c.args.s.now c.args.at _ c.in_err-head.ensures)

pub returns-then-at-lt-HEAD_SIZE : goal.returns-then-at-lt-HEAD_SIZE
returns-then-at-lt-HEAD_SIZE c = stand-head c.args.s.now c.args.at _ c.in_ok-head.ensures c.if-at-lt-HEAD_SIZE.true

pub returns-then-s-at : goal.returns-then-s-at
returns-then-s-at c = stand-past c.args.s.now c.args.at _ c.in_ok-head.ensures c.if-at-lt-HEAD_SIZE.false c.if-s-at.true

pub returns-in_err-before : goal.returns-in_err-before
returns-in_err-before c =
    let p = err_from_is_err_and c.from_residual-in_err-before.result c.from_residual-in_err-before.ensures.1 in
    rw (p.1, p.2) (stand-bad c.args.s.now c.args.at _ c.in_ok-head.ensures c.if-at-lt-HEAD_SIZE.false c.if-s-at.false _ c.in_err-before.ensures.reading)

pub returns-then-before-at : goal.returns-then-before-at
returns-then-before-at c =
    let t = c.in_ok-before.ensures in
    stand-off c.args.s.now c.args.at _ c.in_ok-head.ensures c.if-at-lt-HEAD_SIZE.false c.if-s-at.false _ _ t.reading t.stored c.if-before-at.true

pub returns : goal.returns
returns c =
    let t = c.in_ok-before.ensures in
    stand-next c.args.s.now c.args.at _ c.in_ok-head.ensures c.if-at-lt-HEAD_SIZE.false c.if-s-at.false _ _ t.reading t.stored c.if-before-at.false _ c.next_at.ensures
