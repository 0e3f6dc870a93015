use Rattle.deeds.proofs.Doing.{fault-lost, fault-refused}
use Rattle.std.proofs.Common.{rules}
use Rattle.deeds.proofs.Ordered.with_fault.Goals as goal

pub returns-in-Ok : goal.returns-in-Ok
returns-in-Ok c = search (fault-lost, rules)

pub returns-in-Err : goal.returns-in-Err
returns-in-Err c = search (fault-refused, rules)
