use Rattle.std.proofs.Common.{rules, tests}
use Rattle.std.proofs.lemmas.Iterator.{YieldsList-from_slice}
use Rattle.lists.proofs.Library.{all_of}
use Rattle.messages.specs.Clauses.{message_fine}
use Rattle.messages.proofs.messages_in_order.Goals as goal

pub returns : goal.returns
returns c = all_of (message_fine c.args.xs.now c.args.ys.now c.args.s c.args.r) _ _ _ c.all.ensures.ran (YieldsList-from_slice c.args.q.now cc) (λ x b q k. search (rules, tests))
