use Rattle.std.specs.Prelude.{◌≡◌, true, false, ◌&&◌, eqb}
use Rattle.lists.proofs.Chains.{ands}
use Rattle.std.proofs.Common.{rules}
use Rattle.std.proofs.lemmas.Result.{err_from_is_err_and}
use Rattle.standing.proofs.Standings.{close-hands, close-stays, next-backpointer, next-close, next-entry, next-record}
use Rattle.standing.proofs.next_at.Goals as goal

pub returns-then-entries_only : goal.returns-then-entries_only
returns-then-entries_only c =
    let b = c.args.before.now.backpointers.count in
    let d = c.args.before.now.records.count in
    let only : c.if-before-eq0.entries_only ≡ (eqb b 0 && eqb d 0) = search (ands, rules) in
    let y : (c.is_marked.result && (eqb b 0 && eqb d 0)) ≡ true = rw (← only) (search (ands, rules)) in
    next-entry _ _ _ b d _ _ _ c.is_marked.ensures y c.hand.ensures

pub returns-then-no_record : goal.returns-then-no_record
returns-then-no_record c =
    let b = c.args.before.now.backpointers.count in
    let d = c.args.before.now.records.count in
    let only : c.if-before-eq0.entries_only ≡ (eqb b 0 && eqb d 0) = search (ands, rules) in
    let y : (c.is_marked.result && (eqb b 0 && eqb d 0)) ≡ false = rw (← only) (search (ands, rules)) in
    let z : (c.is_marked-2.result && eqb d 0) ≡ true = search (ands, rules) in
    next-backpointer _ _ _ b d _ _ _ c.is_marked.ensures y _ c.is_marked-2.ensures z c.hand-then-no_record.ensures

pub returns-then-is_marked-3 : goal.returns-then-is_marked-3
returns-then-is_marked-3 c =
    let b = c.args.before.now.backpointers.count in
    let d = c.args.before.now.records.count in
    let only : c.if-before-eq0.entries_only ≡ (eqb b 0 && eqb d 0) = search (ands, rules) in
    let y : (c.is_marked.result && (eqb b 0 && eqb d 0)) ≡ false = rw (← only) (search (ands, rules)) in
    let z : (c.is_marked-2.result && eqb d 0) ≡ false = search (ands, rules) in
    next-record _ _ _ b d _ _ _ c.is_marked.ensures y _ c.is_marked-2.ensures z _ c.is_marked-3.ensures c.if-is_marked-3.true c.hand-then-is_marked-3.ensures

pub returns-in_err-close_at : goal.returns-in_err-close_at
returns-in_err-close_at c =
    let b = c.args.before.now.backpointers.count in
    let d = c.args.before.now.records.count in
    let only : c.if-before-eq0.entries_only ≡ (eqb b 0 && eqb d 0) = search (ands, rules) in
    let y : (c.is_marked.result && (eqb b 0 && eqb d 0)) ≡ false = rw (← only) (search (ands, rules)) in
    let z : (c.is_marked-2.result && eqb d 0) ≡ false = search (ands, rules) in
    let p = err_from_is_err_and c.from_residual.result c.from_residual.ensures.1 in
    rw (p.1, p.2)
    (next-close c.args.at _ _ b d _ _ _ c.is_marked.ensures y _ c.is_marked-2.ensures z _ c.is_marked-3.ensures _ c.if-is_marked-3.false c.total.ensures (close-stays c.args.at _ _ _ c.in_err-close_at.ensures))

pub returns : goal.returns
returns c =
    let b = c.args.before.now.backpointers.count in
    let d = c.args.before.now.records.count in
    let only : c.if-before-eq0.entries_only ≡ (eqb b 0 && eqb d 0) = search (ands, rules) in
    let y : (c.is_marked.result && (eqb b 0 && eqb d 0)) ≡ false = rw (← only) (search (ands, rules)) in
    let z : (c.is_marked-2.result && eqb d 0) ≡ false = search (ands, rules) in
    next-close c.args.at _ _ b d _ _ _ c.is_marked.ensures y _ c.is_marked-2.ensures z _ c.is_marked-3.ensures _ c.if-is_marked-3.false c.total.ensures (close-hands c.args.at _ _ c.in_ok-close_at.ensures)
