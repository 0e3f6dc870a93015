use Rattle.std.proofs.Common.{arith, refl}
use Rattle.lines.proofs.Words.{word-cut, word-fits}
use Rattle.lines.proofs.word_at.Goals as goal

pub returns : goal.returns
returns c = word-cut 32 _ _ c.word_len.ensures c.args.line.now c.args.from c.min.result refl (λ h. omega arith) (λ h. omega arith)
