use Rattle.asks.proofs.Unlinks.{unlinktables}
use Rattle.answers.proofs.Applied.{refused-applies}
use Rattle.answers.proofs.Ways.{read-entries}
use Rattle.lists.proofs.Finds.{found_below, found-fits, found_in}
use Rattle.std.proofs.Common.{rules}
use Rattle.asks.proofs.unlink_name.Goals as goal

pub offset_bounds-entries-i : goal.offset_bounds-entries-i
offset_bounds-entries-i c = search (unlinktables, refused-applies, read-entries, found_below, found_in, found-fits, rules)

pub bounds-entries-i : goal.bounds-entries-i
bounds-entries-i c = search (unlinktables, refused-applies, read-entries, found_below, found_in, rules)

pub returns-in-Some-clause-result_value : goal.returns-in-Some-clause-result_value
returns-in-Some-clause-result_value c = search (unlinktables, refused-applies, rules)

pub returns-in-None-clause-result_value : goal.returns-in-None-clause-result_value
returns-in-None-clause-result_value c = search (unlinktables, refused-applies, rules)
