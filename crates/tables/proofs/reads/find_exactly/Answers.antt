use Rattle.std.proofs.Common.{rules, tests}
use Rattle.std.proofs.lemmas.Iterator.{YieldsList-from_slice}
use Rattle.lists.proofs.Library.{first_of}
use Rattle.protocol.specs.Deliver.{is_exactly}
use Rattle.tables.specs.View.{backpointers_of}
use Rattle.tables.proofs.reads.find_exactly.Goals as goal

pub returns : goal.returns
returns c = first_of (is_exactly c.args.s c.args.x.now) _ _ _ c.position.ensures.ran (YieldsList-from_slice (backpointers_of c.args.l.now) cc) (λ x b q k. search (rules, tests))
