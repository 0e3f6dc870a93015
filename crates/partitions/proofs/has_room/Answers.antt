use Rattle.std.proofs.Common.{rules}
use Rattle.tables.specs.View.{entries_of, records_of}
use Rattle.partitions.proofs.Laws.{room-few, rooms}
use Rattle.partitions.proofs.has_room.Goals as goal

pub returns-then-listed-le-MAX_ENTRIES : goal.returns-then-listed-le-MAX_ENTRIES
returns-then-listed-le-MAX_ENTRIES c =
    let few = room-few (entries_of c.args.entries.now) (records_of c.args.records.now) in
    search rules

pub returns-else-listed-le-MAX_ENTRIES : goal.returns-else-listed-le-MAX_ENTRIES
returns-else-listed-le-MAX_ENTRIES c = search (rooms, rules)
