use Rattle.deliveries.proofs.Receives.{sayings}
use Rattle.std.proofs.Common.{rules}
use Rattle.deliveries.proofs.Request.say.Goals as goal

pub returns-clause-result_value : goal.returns-clause-result_value
returns-clause-result_value c = search (sayings, rules)

pub returns-clause-applies : goal.returns-clause-applies
returns-clause-applies c = search (sayings, rules)
