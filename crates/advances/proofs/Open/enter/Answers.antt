use Rattle.advances.proofs.Advancing.{steps}
use Rattle.answers.proofs.Applied.{refused-applies}
use Rattle.tables.proofs.Stored.{packed-entries}
use Rattle.lists.proofs.Finds.{found_below, found_in}
use Rattle.std.proofs.Common.{rules}
use Rattle.advances.proofs.Open.enter.Goals as goal

pub returns-clause-result_value : goal.returns-clause-result_value
returns-clause-result_value c = search (steps, refused-applies, rules)

pub add-requires : goal.add-requires
add-requires c = search (steps, refused-applies, rules)
