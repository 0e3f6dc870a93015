use Rattle.advances.proofs.Advancing.{steps}
use Rattle.answers.proofs.Applied.{refused-applies}
use Rattle.tables.proofs.Stored.{packed-records}
use Rattle.lists.proofs.Finds.{found_below, found_in}
use Rattle.std.proofs.Common.{rules}
use Rattle.advances.proofs.Open.close.Goals as goal

pub returns-clause-result_value : goal.returns-clause-result_value
returns-clause-result_value c = search (steps, refused-applies, rules)

pub remove-requires : goal.remove-requires
remove-requires c = search (steps, refused-applies, rules)
