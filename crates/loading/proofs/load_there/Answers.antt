use Rattle.loading.proofs.Loads.{load-unread, loads_read, read-stored}
use Rattle.std.proofs.Common.{rules}
use Rattle.loading.proofs.load_there.Goals as goal

pub returns-in-Ok : goal.returns-in-Ok
returns-in-Ok c = search (loads_read, rules)

pub returns-in-Err : goal.returns-in-Err
returns-in-Err c = load-unread _ _ _ _ (search rules) (search rules) _ c.in-Err.ensures c.refused.ensures
