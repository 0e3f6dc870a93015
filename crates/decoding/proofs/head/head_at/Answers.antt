use Rattle.decoding.proofs.Fields.{head-fields}
use Rattle.std.proofs.Common.{rules}
use Rattle.decoding.proofs.head.head_at.Goals as goal

pub returns : goal.returns
returns c = search (head-fields, rules)
