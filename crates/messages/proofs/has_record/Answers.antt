use Rattle.std.proofs.Common.{rules, tests}
use Rattle.std.proofs.lemmas.Iterator.{YieldsList-from_slice}
use Rattle.lists.proofs.Library.{any_of}
use Rattle.protocol.specs.Order.{sent_as}
use Rattle.messages.proofs.has_record.Goals as goal

pub returns : goal.returns
returns c = any_of (sent_as c.args.x.now c.args.to) _ _ _ c.any.ensures.ran (YieldsList-from_slice c.args.l.now cc) (λ x b q k. search (rules, tests))
