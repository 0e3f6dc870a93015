use Rattle.texts.proofs.Buffers.{byte_put}
use Rattle.std.proofs.Common.{rules}
use Rattle.texts.proofs.text.put_byte.Goals as goal

pub returns : goal.returns
returns c = search (byte_put, rules)
