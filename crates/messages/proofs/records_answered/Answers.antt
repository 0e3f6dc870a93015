use Rattle.std.proofs.Common.{rules, tests}
use Rattle.std.proofs.lemmas.Iterator.{YieldsList-from_slice}
use Rattle.lists.proofs.Library.{all_of}
use Rattle.messages.specs.Clauses.{record_answered}
use Rattle.messages.proofs.records_answered.Goals as goal

pub returns : goal.returns
returns c = all_of (record_answered c.args.r c.args.q.now c.args.back.now) _ _ _ c.all.ensures.ran (YieldsList-from_slice c.args.xs.now cc) (λ x b q k. search (rules, tests))
