use Rattle.asks.proofs.Asks.{asks}
use Rattle.answers.proofs.Applied.{refused-applies}
use Rattle.answers.proofs.Ways.{ready-stored}
use Rattle.tables.proofs.Known.{sized}
use Rattle.std.proofs.Common.{rules}
use Rattle.asks.proofs.ask_change.Goals as goal

pub returns-then-not-is_in_range-clause-result_value : goal.returns-then-not-is_in_range-clause-result_value
returns-then-not-is_in_range-clause-result_value c = search (asks, refused-applies, rules)

pub invariant_of-start : goal.invariant_of-start
invariant_of-start c = search (asks, refused-applies, rules)
