use Rattle.std.proofs.Common.{rules}
use Rattle.answers.proofs.Calls.{deliver-called}
use Rattle.events.proofs.deliver.Goals as goal

pub returns : goal.returns
returns c = deliver-called c.args.t c.tested.result c.args.s c.args.r (λ ready. search (c.tested.ensures.passed ready, rules)) c.tested.ensures.refused
