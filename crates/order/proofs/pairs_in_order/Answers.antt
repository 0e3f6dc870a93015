use Rattle.std.proofs.Common.{rules, tests, refl, ◌∙◌}
use Rattle.std.proofs.lemmas.Iterator.{YieldsList-from_range}
use Rattle.lists.proofs.Library.{all_of, all-range}
use Rattle.protocol.specs.Bounds.{queue_count}
use Rattle.order.specs.Clauses.{pair_at}
use Rattle.order.proofs.pairs_in_order.Goals as goal

pub returns : goal.returns
returns c = all_of (pair_at c.args.t.now) _ _ _ c.all.ensures.ran (YieldsList-from_range 0 queue_count queue_count refl refl) (λ x b q k. search (rules, tests)) ∙ all-range (pair_at c.args.t.now) queue_count
