use Rattle.decoding.proofs.Fields.{mark-hd, short-hd}
use Rattle.decoding.proofs.Decodes.{decodes, one-early, one-foreign, one-marked}
use Rattle.std.proofs.Common.{rules}
use Rattle.decoding.proofs.head.read_head.Goals as goal

pub returns-then-s-lt2 : goal.returns-then-s-lt2
returns-then-s-lt2 c = search (one-early, rules)

pub returns-then-not-begins_with : goal.returns-then-not-begins_with
returns-then-not-begins_with c = search (one-foreign, mark-hd, rules)

pub returns-then-s-lt-HEAD_SIZE : goal.returns-then-s-lt-HEAD_SIZE
returns-then-s-lt-HEAD_SIZE c = search (one-marked, mark-hd, decodes, short-hd, rules)

pub returns-then-not-fits : goal.returns-then-not-fits
returns-then-not-fits c = search (one-marked, mark-hd, decodes, short-hd, rules)

pub returns : goal.returns
returns c = search (one-marked, mark-hd, decodes, short-hd, rules)
