use Rattle.deliveries.proofs.Receives.{receipts}
use Rattle.std.proofs.Common.{rules}
use Rattle.deliveries.proofs.receive.Goals as goal

pub returns-in-Request-clause-result_value : goal.returns-in-Request-clause-result_value
returns-in-Request-clause-result_value c = search (receipts, rules)
