use Rattle.asks.proofs.Unlinks.{unlinkplaces}
use Rattle.answers.proofs.Applied.{refused-applies}
use Rattle.tables.proofs.Known.{sized}
use Rattle.std.proofs.Common.{rules}
use Rattle.asks.proofs.unlink_change.Goals as goal

pub returns-then-d-clause-result_value : goal.returns-then-d-clause-result_value
returns-then-d-clause-result_value c = search (unlinkplaces, refused-applies, sized, rules)

pub returns-then-not-good-clause-result_value : goal.returns-then-not-good-clause-result_value
returns-then-not-good-clause-result_value c = search (unlinkplaces, refused-applies, sized, rules)

pub returns-then-not-own-clause-result_value : goal.returns-then-not-own-clause-result_value
returns-then-not-own-clause-result_value c = search (unlinkplaces, refused-applies, sized, rules)

pub returns-clause-result_value : goal.returns-clause-result_value
returns-clause-result_value c = search (unlinkplaces, refused-applies, sized, rules)
