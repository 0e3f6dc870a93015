use Rattle.lines.proofs.Commands.{number-end}
use Rattle.std.proofs.Common.{arith, rules, ◌∙◌}
use Rattle.lines.proofs.Values.{number-near}
use Rattle.lines.proofs.number_at.Goals as goal

pub overflow_add-result : goal.overflow_add-result
overflow_add-result c = number-end _ _ _ c.word_at-word.ensures _ _ c.number_in.ensures c.in_ok-value.was (search rules)

pub returns-in_err-value : goal.returns-in_err-value
returns-in_err-value c = search rules ∙ number-near c.args.line.now c.args.from c.min.result (λ h. omega arith)

pub returns : goal.returns
returns c = search rules ∙ number-near c.args.line.now c.args.from c.min.result (λ h. omega arith)
