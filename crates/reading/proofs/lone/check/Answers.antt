use Rattle.std.proofs.Common.{rules}
use Rattle.std.proofs.lemmas.Result.{err_from_is_err_and}
use Rattle.reading.proofs.Alone.{lone-fail, lone_laws}
use Rattle.reading.proofs.lone.check.Goals as goal

pub returns-in_err-picture : goal.returns-in_err-picture
returns-in_err-picture c =
    let p = err_from_is_err_and c.from_residual.result c.from_residual.ensures.1 in
    rw (p.1, p.2) (lone-fail c.args.bytes.now _ c.in_err-picture.ensures)

pub returns-then-not-order_alone : goal.returns-then-not-order_alone
returns-then-not-order_alone c = search (lone_laws, rules)

pub returns : goal.returns
returns c = search (lone_laws, rules)
