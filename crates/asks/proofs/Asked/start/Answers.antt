use Rattle.asks.proofs.Asks.{askplaces}
use Rattle.answers.proofs.Applied.{refused-applies}
use Rattle.answers.proofs.Ways.{ready-stored}
use Rattle.tables.proofs.Known.{sized}
use Rattle.std.proofs.Common.{rules}
use Rattle.asks.proofs.Asked.start.Goals as goal

pub returns-clause-result_value : goal.returns-clause-result_value
returns-clause-result_value c = search (askplaces, refused-applies, rules)

pub returns-then-not-good-clause-result_value : goal.returns-then-not-good-clause-result_value
returns-then-not-good-clause-result_value c = search (askplaces, refused-applies, rules)

pub returns-then-not-own-clause-result_value : goal.returns-then-not-own-clause-result_value
returns-then-not-own-clause-result_value c = search (askplaces, refused-applies, rules)
