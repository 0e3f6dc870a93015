use Rattle.faults.proofs.Faulty.{cut-beyond, cut-done, cut-far-down, cut-itself, cut-outside, cut_down, found-four}
use Rattle.std.proofs.lemmas.Result.{err_from_is_err_and}
use Rattle.std.proofs.Common.{rules}
use Rattle.faults.proofs.cut_fault.Goals as goal

pub returns-in_err-from : goal.returns-in_err-from
returns-in_err-from c =
    let p = err_from_is_err_and c.from_residual.result c.from_residual.ensures.1 in
    rw (p.1, p.2) (cut-outside _ c.are_sized.ensures c.requires _ _ c.in_err-from.ensures.1 _ c.in_err-from.ensures.0)

pub returns-in_err-to : goal.returns-in_err-to
returns-in_err-to c =
    let p = err_from_is_err_and c.from_residual-in_err-to.result c.from_residual-in_err-to.ensures.1 in
    rw (p.1, p.2) (cut-beyond _ c.are_sized.ensures c.requires _ _ c.in_err-to.ensures.1 _ c.in_err-to.ensures.0)

pub returns-then-from-to : goal.returns-then-from-to
returns-then-from-to c =
    cut-itself _ c.are_sized.ensures c.requires _ _ c.in_ok-from.ensures.1 c.in_ok-to.ensures.1 _ _ c.in_ok-from.ensures.0 c.in_ok-to.ensures.0 (search rules)

pub up-requires : goal.up-requires
up-requires c = found-four _ c.are_sized.ensures c.requires _ _ c.in_ok-from.ensures.0 c.in_ok-from.ensures.1

pub returns-in_err-up : goal.returns-in_err-up
returns-in_err-up c =
    let p = err_from_is_err_and c.from_residual-in_err-up.result c.from_residual-in_err-up.ensures.1 in
    rw (p.1, p.2) (cut_down _ c.are_sized.ensures c.requires _ _ c.in_ok-from.ensures.1 c.in_ok-to.ensures.1 _ _ c.in_ok-from.ensures.0 c.in_ok-to.ensures.0 (search rules)
    c.in_err-up.ensures.1 _ c.in_err-up.ensures.0)

pub up-requires-2 : goal.up-requires-2
up-requires-2 c = search (found-four, c.in_ok-from.ensures, c.in_ok-to.ensures, c.are_sized.ensures, rules)

pub returns-in_err-up-2 : goal.returns-in_err-up-2
returns-in_err-up-2 c =
    let p = err_from_is_err_and c.from_residual-in_err-up-2.result c.from_residual-in_err-up-2.ensures.1 in
    rw (p.1, p.2) (cut-far-down _ c.are_sized.ensures c.requires _ _ c.in_ok-from.ensures.1 c.in_ok-to.ensures.1 _ _ c.in_ok-from.ensures.0 c.in_ok-to.ensures.0 (search rules)
    c.in_err-up-2.ensures.1 _ c.in_err-up-2.ensures.0)

pub returns : goal.returns
returns c =
    cut-done _ c.are_sized.ensures c.requires _ _ c.in_ok-from.ensures.1 c.in_ok-to.ensures.1 _ _ c.in_ok-from.ensures.0 c.in_ok-to.ensures.0 (search rules)
    c.in_ok-up.ensures c.in_ok-up-2.ensures
