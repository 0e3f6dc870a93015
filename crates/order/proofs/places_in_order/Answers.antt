use Rattle.std.proofs.Common.{rules, tests, refl, ◌∙◌}
use Rattle.std.proofs.lemmas.Iterator.{YieldsList-from_range}
use Rattle.lists.proofs.Library.{all_of, all-range}
use Rattle.protocol.specs.Bounds.{max_partitions}
use Rattle.order.specs.Clauses.{place_at}
use Rattle.order.proofs.places_in_order.Goals as goal

pub returns : goal.returns
unfolding place_at
returns c = all_of (place_at c.args.t.now.count c.args.t.now.partitions) _ _ _ c.all.ensures.ran (YieldsList-from_range 0 max_partitions max_partitions refl refl) (λ x b q k. search (rules, tests)) ∙ all-range (place_at c.args.t.now.count c.args.t.now.partitions) max_partitions
