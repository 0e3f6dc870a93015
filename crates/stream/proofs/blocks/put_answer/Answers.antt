use Rattle.stream.proofs.Answering.{answering}
use Rattle.std.proofs.Common.{rules}
use Rattle.stream.proofs.blocks.put_answer.Goals as goal

pub returns-clause-adds : goal.returns-clause-adds
returns-clause-adds c = search (answering, rules)

pub returns-clause-upper_bound : goal.returns-clause-upper_bound
returns-clause-upper_bound c = search (answering, rules)
