use Rattle.std.proofs.Common.{rules}
use Rattle.answers.proofs.Calls.{advance-called}
use Rattle.events.proofs.advance.Goals as goal

pub returns : goal.returns
returns c = advance-called c.args.t c.tested.result c.args.p c.args.number (λ ready. search (c.tested.ensures.passed ready, rules)) c.tested.ensures.refused
