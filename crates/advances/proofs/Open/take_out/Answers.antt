use Rattle.advances.proofs.Advancing.{steps}
use Rattle.answers.proofs.Applied.{refused-applies}
use Rattle.tables.proofs.Stored.{packed-entries}
use Rattle.lists.proofs.Finds.{found_below, found_in}
use Rattle.std.proofs.Common.{rules}
use Rattle.advances.proofs.Open.take_out.Goals as goal

pub find_entry-requires : goal.find_entry-requires
find_entry-requires c = search (steps, refused-applies, rules)

pub returns-in_default-clause-result_value : goal.returns-in_default-clause-result_value
returns-in_default-clause-result_value c = search (steps, refused-applies, rules)

pub remove-requires : goal.remove-requires
remove-requires c = search (steps, found_below, found_in, rules)

pub returns-clause-result_value : goal.returns-clause-result_value
returns-clause-result_value c = search (steps, refused-applies, rules)
