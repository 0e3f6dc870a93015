use Rattle.stream.proofs.Gathering.{gathering}
use Rattle.std.proofs.Common.{rules}
use Rattle.stream.proofs.blocks.with_byte.Goals as goal

pub returns-then-l-ge-LINE_ROOM : goal.returns-then-l-ge-LINE_ROOM
returns-then-l-ge-LINE_ROOM c = search (gathering, rules)

pub returns : goal.returns
returns c = search (gathering, rules)
