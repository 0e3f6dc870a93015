use Rattle.codec.proofs.Gets.{get4-be}
use Rattle.std.proofs.Common.{arith}
use Rattle.decoding.proofs.bytes.get_u32.Goals as goal

pub returns : goal.returns
returns c = get4-be c.args.s.now c.args.at _ (omega arith) c.from_be_bytes.ensures
