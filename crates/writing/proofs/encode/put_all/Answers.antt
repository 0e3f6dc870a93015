use Rattle.std.proofs.Common.{rules}
use Rattle.writing.proofs.Puttings.{lay-start, lay-turn}
use Rattle.writing.proofs.encode.put_all.Goals as goal

pub loop-record-init : goal.loop-record-init
loop-record-init g c = search (lay-start, rules)

pub loop-record-preserved : goal.loop-record-preserved
loop-record-preserved g c = search (lay-turn, rules)
