use Rattle.deliveries.proofs.Receives.{answers}
use Rattle.std.proofs.Common.{rules}
use Rattle.deliveries.proofs.Request.answer.Goals as goal

pub verdict-v-requires : goal.verdict-v-requires
verdict-v-requires c = search (answers, rules)

pub carry_out-requires : goal.carry_out-requires
carry_out-requires c = search (answers, rules)

pub returns-clause-result_value : goal.returns-clause-result_value
returns-clause-result_value c = search (answers, rules)
