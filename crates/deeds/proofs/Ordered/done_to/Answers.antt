use Rattle.deeds.proofs.Doing.{create-done, link-done}
use Rattle.std.proofs.Common.{rules}
use Rattle.deeds.proofs.Ordered.done_to.Goals as goal

pub returns-in-Link : goal.returns-in-Link
returns-in-Link c = search (create-done, link-done, rules)

pub returns-in-Create : goal.returns-in-Create
returns-in-Create c = search (create-done, link-done, rules)
