use Rattle.deliveries.proofs.Receives.{carryings}
use Rattle.std.proofs.Common.{rules}
use Rattle.deliveries.proofs.Request.carry_out.Goals as goal

pub returns-in-SaysOnly-clause-result_value : goal.returns-in-SaysOnly-clause-result_value
returns-in-SaysOnly-clause-result_value c = search (carryings, rules)
