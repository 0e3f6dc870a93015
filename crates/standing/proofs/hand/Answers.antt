use borrow.Author.Rules.{part_to_end}
use Rattle.std.proofs.Common.{◌≡◌, ◌-◌, drop, length, rules, take}
use Rattle.std.proofs.lemmas.Result.{err_from_is_err_and}
use Rattle.standing.proofs.Standings.{hand-fail, hand-good}
use Rattle.reading.proofs.Sectioned.{one_more-long}
use Rattle.standing.proofs.hand.Goals as goal

pub returns-in_err-x : goal.returns-in_err-x
returns-in_err-x g c =
    let p = err_from_is_err_and c.from_residual.result c.from_residual.ensures.1 in
    let s = c.args.s.now in
    let at = c.args.at in
    let same : take (length s - at) (drop at s) ≡ drop at s = search (part_to_end, rules) in
    rw (p.1, p.2) (hand-fail _ at _ _ _ (rw same at c.in_err-x.ensures))

pub overflow_add-result : goal.overflow_add-result
overflow_add-result g c =
    let laws = g.met.T.Row.laws in
    let s = c.args.s.now in
    let at = c.args.at in
    let same : take (length s - at) (drop at s) ≡ drop at s = search (part_to_end, rules) in
    let long = one_more-long _ _ _ s at _ _ _ laws.long laws.short c.requires (rw same at c.in_ok-x.ensures) in
    rw c.SIZE.ensures (search (long, rules))

pub returns : goal.returns
returns g c =
    let s = c.args.s.now in
    let at = c.args.at in
    let same : take (length s - at) (drop at s) ≡ drop at s = search (part_to_end, rules) in
    rw (c.SIZE.ensures, c.part.ensures) (hand-good _ at _ _ _ _ (rw same at c.in_ok-x.ensures))
