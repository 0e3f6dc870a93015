use Rattle.lines.proofs.Shapes.{by-letter, by-none, shaped}
use Rattle.std.proofs.Common.{rules}
use Rattle.lines.proofs.shape_of.Goals as goal

pub returns-in-80 : goal.returns-in-80
unfolding shaped
returns-in-80 c = search (by-letter, rules)

pub returns-in-76 : goal.returns-in-76
unfolding shaped
returns-in-76 c = search (by-letter, rules)

pub returns-in-67 : goal.returns-in-67
unfolding shaped
returns-in-67 c = search (by-letter, rules)

pub returns-in-85 : goal.returns-in-85
unfolding shaped
returns-in-85 c = search (by-letter, rules)

pub returns-in-65 : goal.returns-in-65
unfolding shaped
returns-in-65 c = search (by-letter, rules)

pub returns-in-68 : goal.returns-in-68
unfolding shaped
returns-in-68 c = search (by-letter, rules)

pub returns-in-66 : goal.returns-in-66
unfolding shaped
returns-in-66 c = search (by-letter, rules)

pub returns-in-75 : goal.returns-in-75
unfolding shaped
returns-in-75 c = search (by-letter, rules)

pub returns-in-82 : goal.returns-in-82
unfolding shaped
returns-in-82 c = search (by-letter, rules)

pub returns-in-90 : goal.returns-in-90
unfolding shaped
returns-in-90 c = search (by-letter, rules)

pub returns-in-83 : goal.returns-in-83
unfolding shaped
returns-in-83 c = search (by-letter, rules)

pub returns-in-81 : goal.returns-in-81
unfolding shaped
returns-in-81 c = search (by-letter, rules)

pub returns-in_default : goal.returns-in_default
unfolding shaped
returns-in_default c = by-none _ c.in_default.in_default-own.rest
