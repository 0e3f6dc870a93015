use Rattle.texts.proofs.Digits.{sizing}
use Rattle.std.proofs.Common.{rules}
use Rattle.texts.proofs.text.digit_count.Goals as goal

pub overflow_add-count : goal.overflow_add-count
overflow_add-count c = search (sizing, rules)

pub loop-rest-preserved : goal.loop-rest-preserved
loop-rest-preserved c = search (sizing, rules)

pub returns : goal.returns
returns c = search (sizing, rules)
