use Rattle.advances.proofs.Advances.{records-advanced}
use Rattle.answers.proofs.Ways.{read-entries}
use Rattle.std.proofs.Common.{rules}
use Rattle.advances.proofs.advance_record.Goals as goal

pub next_step-step-requires : goal.next_step-step-requires
next_step-step-requires c = search (records-advanced, read-entries, rules)

pub returns-clause-result_value : goal.returns-clause-result_value
returns-clause-result_value c = search (records-advanced, rules)

pub perform-requires : goal.perform-requires
perform-requires c = search (records-advanced, rules)
