use Rattle.std.proofs.Common.{rules}
use Rattle.std.proofs.lemmas.Result.{err_from_is_err_and}
use Rattle.reading.proofs.Pictures.{close-fail, head-fail, head-long, picture-good, tables-fail}
use Rattle.reading.proofs.whole.read_picture.Goals as goal

pub returns-in_err-head : goal.returns-in_err-head
returns-in_err-head c =
    let p = err_from_is_err_and c.from_residual.result c.from_residual.ensures.1 in
    rw (p.1, p.2) (head-fail c.args.s.now _ c.in_err-head.ensures)

pub read_sections-requires : goal.read_sections-requires
read_sections-requires c = search (head-long, rules)

pub returns-in_err-tables : goal.returns-in_err-tables
returns-in_err-tables c =
    let p = err_from_is_err_and c.from_residual-in_err-tables.result c.from_residual-in_err-tables.ensures.1 in
    rw (p.1, p.2) (tables-fail c.args.s.now _ c.in_ok-head.ensures _ c.in_err-tables.ensures.reading)

pub returns-in_err-close_at : goal.returns-in_err-close_at
returns-in_err-close_at c =
    let p = err_from_is_err_and c.from_residual-in_err-close_at.result c.from_residual-in_err-close_at.ensures.1 in
    let t = c.in_ok-tables.ensures in
    rw (p.1, p.2) (close-fail c.args.s.now _ c.in_ok-head.ensures _ _ t.reading t.stored _ c.total.ensures _ c.in_err-close_at.ensures)

pub returns : goal.returns
returns c =
    let t = c.in_ok-tables.ensures in
    picture-good c.args.s.now _ c.in_ok-head.ensures _ _ t.reading t.stored _ c.total.ensures c.in_ok-close_at.ensures
