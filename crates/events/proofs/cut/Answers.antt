use Rattle.std.proofs.Common.{rules}
use Rattle.answers.proofs.Calls.{cut-called}
use Rattle.events.proofs.cut.Goals as goal

pub returns : goal.returns
returns c = cut-called c.args.t c.tested.result c.args.a c.args.b (λ ready. search (c.tested.ensures.passed ready, rules)) c.tested.ensures.refused
