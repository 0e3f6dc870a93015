use Rattle.faults.proofs.Faulty.{crash-done, crash-down, crash-outside, found-four}
use Rattle.std.proofs.lemmas.Result.{err_from_is_err_and}
use Rattle.std.proofs.Common.{rules}
use Rattle.faults.proofs.crash_fault.Goals as goal

pub returns-in_err-at : goal.returns-in_err-at
returns-in_err-at c =
    let p = err_from_is_err_and c.from_residual.result c.from_residual.ensures.1 in
    rw (p.1, p.2) (crash-outside _ c.are_sized.ensures c.requires _ c.in_err-at.ensures.1 _ c.in_err-at.ensures.0)

pub up-requires : goal.up-requires
up-requires c = found-four _ c.are_sized.ensures c.requires _ _ c.in_ok-at.ensures.0 c.in_ok-at.ensures.1

pub returns-in_err-up : goal.returns-in_err-up
returns-in_err-up c =
    let p = err_from_is_err_and c.from_residual-in_err-up.result c.from_residual-in_err-up.ensures.1 in
    rw (p.1, p.2) (crash-down _ c.are_sized.ensures c.requires _ c.in_ok-at.ensures.1 _ c.in_ok-at.ensures.0 c.in_err-up.ensures.1 _ c.in_err-up.ensures.0)

pub returns : goal.returns
returns c = crash-done _ c.are_sized.ensures c.requires _ c.in_ok-at.ensures.1 _ c.in_ok-at.ensures.0 c.in_ok-up.ensures
