use Rattle.advances.proofs.Advancing.{request-applies, requested, steps}
use Rattle.std.proofs.Common.{rules}
use Rattle.advances.proofs.Open.send_request.Goals as goal

pub returns-clause-result_value : goal.returns-clause-result_value
returns-clause-result_value c = search (requested, rules)

pub returns-clause-applies : goal.returns-clause-applies
returns-clause-applies c = search (request-applies, rules)

pub change-requires : goal.change-requires
change-requires c = search (steps, rules)
