use Rattle.lists.proofs.Pairs.{apart-done, apart-next, apart-not}
use Rattle.partitions.proofs.are_apart.Goals as goal

pub returns-then-any_clashes : goal.returns-then-any_clashes
returns-then-any_clashes g c = apart-not g.T.Element.clash c.args.l.now c.loop-first.rest.now c.loop-first.invariant c.in-Some.first.now c.in-Some.others.now c.in-Some.ensures.cases.0 c.any_clashes.result c.any_clashes.ensures c.if-any_clashes.true

pub loop-first-preserved : goal.loop-first-preserved
loop-first-preserved g c = apart-next g.T.Element.clash c.args.l.now c.loop-first.rest.now c.loop-first.invariant c.in-Some.first.now c.in-Some.others.now c.in-Some.ensures.cases.0 c.any_clashes.result c.any_clashes.ensures c.if-any_clashes.false

pub returns : goal.returns
returns g c = apart-done g.T.Element.clash c.args.l.now c.loop-first.rest.now c.loop-first.invariant c.in_default.ensures.cases
