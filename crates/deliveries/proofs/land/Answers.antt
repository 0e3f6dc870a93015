use Rattle.deliveries.proofs.Receives.{landings}
use Rattle.std.proofs.Common.{rules}
use Rattle.deliveries.proofs.land.Goals as goal

pub returns-clause-result_value : goal.returns-clause-result_value
returns-clause-result_value c = search (landings, rules)

pub with_stage-own-requires : goal.with_stage-own-requires
with_stage-own-requires c = search (landings, rules)
