use Rattle.std.proofs.Common.{rules, tests}
use Rattle.std.proofs.lemmas.Iterator.{YieldsList-from_slice}
use Rattle.lists.proofs.Library.{first_of}
use Rattle.protocol.specs.Tables.{entry_bears}
use Rattle.tables.specs.View.{entries_of}
use Rattle.tables.proofs.reads.find_entry.Goals as goal

pub returns : goal.returns
returns c = first_of (entry_bears c.args.number) _ _ _ c.position.ensures.ran (YieldsList-from_slice (entries_of c.args.l.now) cc) (λ x b q k. search (rules, tests))
