use Rattle.reading.proofs.Closes.{close_laws}
use Rattle.decoding.proofs.Fields.{mark-ed}
use Rattle.std.proofs.Common.{rules}
use Rattle.reading.proofs.whole.close_at.Goals as goal

pub returns-then-left-lt2 : goal.returns-then-left-lt2
returns-then-left-lt2 c = search (close_laws, mark-ed, rules)

pub returns-then-not-begins_with : goal.returns-then-not-begins_with
returns-then-not-begins_with c = search (close_laws, mark-ed, rules)

pub returns-then-left-lt-CLOSE_SIZE : goal.returns-then-left-lt-CLOSE_SIZE
returns-then-left-lt-CLOSE_SIZE c = search (close_laws, mark-ed, rules)

pub returns-then-from-n : goal.returns-then-from-n
returns-then-from-n c = search (close_laws, mark-ed, rules)

pub returns-then-left-gt-CLOSE_SIZE : goal.returns-then-left-gt-CLOSE_SIZE
returns-then-left-gt-CLOSE_SIZE c = search (close_laws, mark-ed, rules)

pub returns : goal.returns
returns c = search (close_laws, mark-ed, rules)
