use Rattle.texts.proofs.Digits.{writing}
use Rattle.std.proofs.Common.{rules}
use Rattle.texts.proofs.text.put_digits.Goals as goal

pub overflow_sub-at : goal.overflow_sub-at
overflow_sub-at c = search (writing, rules)

pub loop-rest-init : goal.loop-rest-init
loop-rest-init c = search (writing, rules)

pub overflow_sub-at-in-loop-rest : goal.overflow_sub-at-in-loop-rest
overflow_sub-at-in-loop-rest c = search (writing, rules)

pub loop-rest-preserved : goal.loop-rest-preserved
loop-rest-preserved c = search (writing, rules)

pub returns : goal.returns
returns c = search (writing, rules)
