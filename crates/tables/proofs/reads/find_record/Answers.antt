use Rattle.std.proofs.Common.{rules, tests}
use Rattle.std.proofs.lemmas.Iterator.{YieldsList-from_slice}
use Rattle.lists.proofs.Library.{first_of}
use Rattle.protocol.specs.Tables.{record_bears}
use Rattle.tables.specs.View.{records_of}
use Rattle.tables.proofs.reads.find_record.Goals as goal

pub returns : goal.returns
returns c = first_of (record_bears c.args.number) _ _ _ c.position.ensures.ran (YieldsList-from_slice (records_of c.args.l.now) cc) (λ x b q k. search (rules, tests))
