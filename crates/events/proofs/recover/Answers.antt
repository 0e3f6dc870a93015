use Rattle.std.proofs.Common.{rules}
use Rattle.answers.proofs.Calls.{recover-called}
use Rattle.events.proofs.recover.Goals as goal

pub returns : goal.returns
returns c = recover-called c.args.t c.tested.result c.args.p (λ ready. search (c.tested.ensures.passed ready, rules)) c.tested.ensures.refused
