use Rattle.asks.proofs.Unlinks.{unlinktables}
use Rattle.answers.proofs.Applied.{refused-applies}
use Rattle.std.proofs.Common.{rules}
use Rattle.asks.proofs.unlink_entry.Goals as goal

pub returns-clause-result_value : goal.returns-clause-result_value
returns-clause-result_value c = search (unlinktables, refused-applies, rules)

pub returns-then-not-is_unopened-clause-result_value : goal.returns-then-not-is_unopened-clause-result_value
returns-then-not-is_unopened-clause-result_value c = search (unlinktables, refused-applies, rules)

pub returns-then-own-ge-MAX_RECORDS-clause-result_value : goal.returns-then-own-ge-MAX_RECORDS-clause-result_value
returns-then-own-ge-MAX_RECORDS-clause-result_value c = search (unlinktables, refused-applies, rules)
