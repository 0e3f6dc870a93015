use Rattle.tables.proofs.Stored.{set-stored}
use Rattle.std.proofs.Common.{rules}
use Rattle.loading.proofs.with_partition.Goals as goal

pub returns : goal.returns
returns c = search (set-stored, rules)
