use Rattle.writing.proofs.Puttings.{Laying}
use Rattle.writing.proofs.encode.put_all.Given as goal

abbrev pub invariant-loop-record : goal.invariant-loop-record
invariant-loop-record g l = let r = g.T.Row in Laying r.layout r.SIZE l.initial.buf l.from l.records l.buf l.at l.record-index
