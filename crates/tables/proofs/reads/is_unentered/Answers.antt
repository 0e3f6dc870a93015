use Rattle.std.proofs.Common.{rules}
use Rattle.lists.proofs.Finds.{absent}
use Rattle.protocol.specs.Tables.{entry_bears}
use Rattle.tables.specs.View.{entries_of}
use Rattle.tables.proofs.reads.is_unentered.Goals as goal

pub returns-then-adds : goal.returns-then-adds
returns-then-adds c =
    let lacking = absent (entry_bears c.args.r.now.number) (entries_of c.args.l.now) c.find_entry.result c.find_entry.ensures c.is_none.result c.is_none.ensures in
    search rules
