use borrow.Author.Rules.{part_to_end}
use Rattle.std.proofs.Common.{◌≡◌, ◌-◌, drop, length, rules, take}
use Rattle.std.proofs.lemmas.Result.{err_from_is_err_and}
use Rattle.reading.proofs.Gathers.{gather-end, gather-fail, gather-falls, gather-long, gather-turn}
use Rattle.reading.proofs.sections.read_all.Goals as goal

pub returns-in_err-x-clause-reading : goal.returns-in_err-x-clause-reading
returns-in_err-x-clause-reading g c =
    let p = err_from_is_err_and c.from_residual.result c.from_residual.ensures.1 in
    let s = c.args.s.now in
    let at = c.loop-head.end in
    let same : take (length s - at) (drop at s) ≡ drop at s = search (part_to_end, rules) in
    rw (p.1, p.2) (gather-fail _ _ _ _ s _ _ at c.loop-head.invariant _ c.is_marked.ensures c.loop-head-test.true _ _ same c.in_err-x.ensures)

pub overflow_add-end : goal.overflow_add-end
overflow_add-end g c =
    let laws = g.met.T.Row.laws in
    let s = c.args.s.now in
    let at = c.loop-head.end in
    let same : take (length s - at) (drop at s) ≡ drop at s = search (part_to_end, rules) in
    let long = gather-long _ _ _ _ s _ _ at c.loop-head.invariant _ c.is_marked.ensures c.loop-head-test.true _ _ _ same c.in_ok-x.ensures laws.long laws.short in
    rw c.SIZE-end.ensures (search (long, rules))

pub loop-head-smaller : goal.loop-head-smaller
loop-head-smaller g c =
    let laws = g.met.T.Row.laws in
    let s = c.args.s.now in
    let at = c.loop-head.end in
    let same : take (length s - at) (drop at s) ≡ drop at s = search (part_to_end, rules) in
    rw c.SIZE-end.ensures (gather-falls _ _ _ _ s _ _ at c.loop-head.invariant _ c.is_marked.ensures c.loop-head-test.true _ _ _ same c.in_ok-x.ensures laws.long laws.short)

pub loop-head-preserved : goal.loop-head-preserved
loop-head-preserved g c =
    let laws = g.met.T.Row.laws in
    let s = c.args.s.now in
    let at = c.loop-head.end in
    let same : take (length s - at) (drop at s) ≡ drop at s = search (part_to_end, rules) in
    rw c.SIZE-end.ensures (gather-turn _ _ _ _ s _ _ at c.loop-head.invariant _ c.is_marked.ensures c.loop-head-test.true _ _ _ same c.in_ok-x.ensures laws.long laws.short _ c.add.ensures)

pub returns-clause-reading : goal.returns-clause-reading
returns-clause-reading g c = search (gather-end, rules)
