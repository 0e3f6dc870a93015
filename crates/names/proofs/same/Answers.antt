use Rattle.std.proofs.Common.{rules}
use Rattle.names.proofs.Known.{bytes-length, bytes-small}
use Rattle.names.proofs.Laws.{lengths-differ, words-same}
use Rattle.names.proofs.same.Goals as goal

pub returns-then-a-b : goal.returns-then-a-b
returns-then-a-b c =
    words-same _ _ _ _ (search (bytes-length, rules)) (search (bytes-length, rules)) (search (bytes-small, rules)) (search (bytes-small, rules)) c.from_le_bytes.ensures
    c.from_le_bytes-then-a-b.ensures c.if-a-b.true

pub returns-else-a-b : goal.returns-else-a-b
returns-else-a-b c = lengths-differ _ _ c.if-a-b.false
