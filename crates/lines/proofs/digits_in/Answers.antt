use Rattle.std.proofs.Common.{arith, ◌∙◌}
use Rattle.lines.proofs.Values.{valuing, value-large, value-next, value-over}
use Rattle.std.proofs.Common.{rules}
use Rattle.lines.proofs.digits_in.Goals as goal

pub loop-b-init : goal.loop-b-init
loop-b-init c = search (valuing, rules)

pub returns-then-not-is_ascii_digit : goal.returns-then-not-is_ascii_digit
returns-then-not-is_ascii_digit c = search (valuing, rules)

pub returns-in_err-checked_mul : goal.returns-in_err-checked_mul
returns-in_err-checked_mul c = c.from_residual.ensures ∙ value-large _ _ _ c.loop-b.invariant (search rules) (search rules) (omega (arith, c.in_err-checked_mul.ensures))

pub returns-in_err-value : goal.returns-in_err-value
returns-in_err-value c = c.from_residual-in_err-value.ensures ∙ value-over _ _ _ c.loop-b.invariant (search rules) (search rules) _ _ c.in_ok-checked_mul.ensures.1 c.from.ensures c.in_err-value.ensures

pub loop-b-preserved : goal.loop-b-preserved
loop-b-preserved c = value-next _ _ _ c.loop-b.invariant (search rules) (search rules) _ _ c.in_ok-checked_mul.ensures.1 c.from.ensures _ c.in_ok-value.ensures.0 c.in_ok-value.ensures.1

pub returns : goal.returns
returns c = search (valuing, rules)
