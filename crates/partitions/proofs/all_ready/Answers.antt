use Rattle.std.proofs.Common.{rules, tests}
use Rattle.std.proofs.lemmas.Iterator.{YieldsList-from_slice}
use Rattle.lists.proofs.Library.{all_of}
use Rattle.partitions.specs.Clauses.{ready_record}
use Rattle.partitions.proofs.all_ready.Goals as goal

pub returns : goal.returns
returns c = all_of ready_record _ _ _ c.all.ensures.ran (YieldsList-from_slice c.args.l.now cc) (λ x b q k. search (rules, tests))
