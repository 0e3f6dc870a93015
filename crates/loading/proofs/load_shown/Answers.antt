use Rattle.loading.proofs.Loads.{shows}
use Rattle.std.proofs.Common.{rules}
use Rattle.loading.proofs.load_shown.Goals as goal

pub returns-then-not-is_for : goal.returns-then-not-is_for
returns-then-not-is_for c = search (shows, rules)

pub returns-then-own : goal.returns-then-own
returns-then-own c = search (shows, rules)

pub returns : goal.returns
returns c = search (shows, rules)
