use Rattle.std.proofs.Common.{rules, tests}
use Rattle.std.proofs.lemmas.Iterator.{YieldsList-from_slice}
use Rattle.lists.proofs.Library.{all_of}
use Rattle.names.specs.Names.{is_zero}
use Rattle.names.proofs.are_zeros.Goals as goal

pub returns : goal.returns
returns c = all_of is_zero _ _ _ c.all.ensures.ran (YieldsList-from_slice c.args.bytes.now cc) (λ x b q k. search (rules, tests))
