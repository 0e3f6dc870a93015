use Rattle.asks.proofs.Asks.{asktables, tables-claimed, tables-open}
use Rattle.answers.proofs.Applied.{kept-as-is, refused-applies}
use Rattle.answers.proofs.Ways.{read-entries, read-records, ready-stored}
use Rattle.tables.proofs.Known.{sized}
use Rattle.std.proofs.Common.{rules}
use Rattle.asks.proofs.Asked.look.Goals as goal

pub returns-clause-result_value : goal.returns-clause-result_value
returns-clause-result_value c = search (tables-open, sized, rules)

pub returns-then-not-is_free-clause-result_value : goal.returns-then-not-is_free-clause-result_value
returns-then-not-is_free-clause-result_value c = search (asktables, refused-applies, read-entries, read-records, ready-stored, sized, rules)

pub returns-then-own-ge-LARGEST_NUMBER-clause-result_value : goal.returns-then-own-ge-LARGEST_NUMBER-clause-result_value
returns-then-own-ge-LARGEST_NUMBER-clause-result_value c = search (asktables, refused-applies, read-entries, read-records, ready-stored, sized, rules)

pub returns-then-own-ge-MAX_RECORDS-clause-result_value : goal.returns-then-own-ge-MAX_RECORDS-clause-result_value
returns-then-own-ge-MAX_RECORDS-clause-result_value c = search (asktables, refused-applies, read-entries, read-records, ready-stored, sized, rules)

pub returns-then-claimed-ge-MAX_ENTRIES-clause-result_value : goal.returns-then-claimed-ge-MAX_ENTRIES-clause-result_value
returns-then-claimed-ge-MAX_ENTRIES-clause-result_value c = search (tables-claimed, sized, rules)
