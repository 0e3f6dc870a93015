use Rattle.std.proofs.Common.{rules}
use Rattle.answers.proofs.Calls.{unlink-called}
use Rattle.events.proofs.unlink.Goals as goal

pub returns : goal.returns
returns c = unlink-called c.args.t c.tested.result c.args.p c.args.d c.args.name (λ ready. search (c.tested.ensures.passed ready, rules)) c.tested.ensures.refused
