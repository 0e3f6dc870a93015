use Rattle.deliveries.proofs.Receives.{backpointers-here}
use Rattle.std.proofs.Common.{rules}
use Rattle.deliveries.proofs.Request.add.Goals as goal

pub returns-clause-result_value : goal.returns-clause-result_value
returns-clause-result_value c = search (backpointers-here, rules)

pub returns-clause-applies : goal.returns-clause-applies
returns-clause-applies c = search (backpointers-here, rules)

pub add-requires : goal.add-requires
add-requires c = search (backpointers-here, rules)
