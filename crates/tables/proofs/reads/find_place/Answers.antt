use Rattle.std.proofs.Common.{rules, tests}
use Rattle.std.proofs.lemmas.Iterator.{YieldsList-from_slice}
use Rattle.lists.proofs.Library.{first_of}
use Rattle.protocol.specs.Tables.{in_place}
use Rattle.tables.specs.View.{backpointers_of}
use Rattle.tables.proofs.reads.find_place.Goals as goal

pub returns : goal.returns
returns c = first_of (in_place c.args.object c.args.parent c.args.directory c.args.name) _ _ _ c.position.ensures.ran (YieldsList-from_slice (backpointers_of c.args.l.now) cc) (λ x b q k. search (rules, tests))
