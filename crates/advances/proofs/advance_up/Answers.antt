use Rattle.advances.proofs.Advances.{records-sought}
use Rattle.answers.proofs.Applied.{refused-applies}
use Rattle.answers.proofs.Ways.{read-records, ready-stored}
use Rattle.tables.proofs.Known.{sized}
use Rattle.std.proofs.Common.{rules}
use Rattle.advances.proofs.advance_up.Goals as goal

pub advance_record-requires : goal.advance_record-requires
advance_record-requires c = search (records-sought, read-records, refused-applies, ready-stored, sized, rules)

pub find_record-requires : goal.find_record-requires
find_record-requires c = search (records-sought, read-records, refused-applies, rules)

pub returns-in-Some-clause-result_value : goal.returns-in-Some-clause-result_value
returns-in-Some-clause-result_value c = search (records-sought, refused-applies, ready-stored, rules)

pub returns-in-None-clause-result_value : goal.returns-in-None-clause-result_value
returns-in-None-clause-result_value c = search (records-sought, refused-applies, ready-stored, rules)
