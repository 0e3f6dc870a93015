use Rattle.loading.proofs.Replaces.{replaces}
use Rattle.answers.proofs.Ways.{ready-stored}
use Rattle.std.proofs.Common.{rules}
use Rattle.loading.proofs.replace.Goals as goal

pub with_partition-next-requires : goal.with_partition-next-requires
with_partition-next-requires c = search (ready-stored, rules)

pub returns-then-not-in_order : goal.returns-then-not-in_order
returns-then-not-in_order c = search (replaces, rules)

pub returns : goal.returns
returns c = search (replaces, rules)
