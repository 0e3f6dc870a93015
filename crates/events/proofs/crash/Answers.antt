use Rattle.std.proofs.Common.{rules}
use Rattle.answers.proofs.Calls.{crash-called}
use Rattle.events.proofs.crash.Goals as goal

pub returns : goal.returns
returns c = crash-called c.args.t c.tested.result c.args.p (λ ready. search (c.tested.ensures.passed ready, rules)) c.tested.ensures.refused
