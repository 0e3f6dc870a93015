-- What `fresh` leaves is the stored form of the fresh model.
use mathlib.Core.Bool.{false, true}
use mathlib.Core.List.{List, [], ◌++◌, map}
use mathlib.Core.Path.{◌∙◌, ◌≡◌, ap₂, sym}
use Prim.Native.Nat.{◌-◌, ◌≤◌, ℕ}
use lib.ListN.{drop, length, length-replicate, replicate, take}
use lib.Seq.{length-take-le}
use Rattle.std.proofs.lemmas.List.{drop-replicate}
use Rattle.lists.specs.Lists.{pad}
use Rattle.protocol.specs.Bounds.{max_partitions, queue_count}
use Rattle.tables.specs.View.{Queue, empty_partition, pack, pack_partition, pack_queue, zero_partition}
use Rattle.tables.specs.declared.Partition.{Partition}
use Rattle.tables.specs.declared.Tables.{Tables}
use Rattle.lists.proofs.Repeats.{map-replicate}
use Rattle.protocol.specs.Tables.{fresh_partition, fresh, no_partition as no_part}

pub fresh-packed : (k : ℕ) (ps : List Partition) (a p : Partition) (q : Queue) → k ≤ max_partitions → a ≡ empty_partition false → p ≡ empty_partition true → q ≡ pack_queue [] → ps ≡ replicate (length (take k (replicate max_partitions a))) p
    → ◌≡◌ {A = Tables} (record { count = k; partitions = ps ++ drop k (replicate max_partitions a); queues = replicate queue_count q }) (pack (fresh k))
unfolding pack fresh empty_partition zero_partition fresh_partition no_part pad
fresh-packed k ps a p q h e v w f =
    let n : k ≡ length (replicate k fresh_partition) = sym (length-replicate k fresh_partition) in
    let long : length (take k (replicate max_partitions a)) ≡ k = length-take-le k (replicate max_partitions a) (rw (length-replicate max_partitions a) h) in
    let first : ps ≡ map pack_partition (replicate k fresh_partition) = f ∙ rw (long, v) (sym (map-replicate pack_partition k fresh_partition)) in
    let size : length (map pack_partition (replicate k fresh_partition)) ≡ k = rw (map-replicate pack_partition k fresh_partition) (length-replicate k (pack_partition fresh_partition)) in
    let rest : drop k (replicate max_partitions a) ≡ replicate (max_partitions - length (map pack_partition (replicate k fresh_partition))) zero_partition = rw (size, e) (drop-replicate _ _ _) in
    let b : ps ++ drop k (replicate max_partitions a) ≡ pad max_partitions zero_partition (map pack_partition (replicate k fresh_partition)) = ap₂ (λ (x y : List Partition). x ++ y) first rest in
    let c : replicate queue_count q ≡ map pack_queue (replicate queue_count []) = rw w (sym (map-replicate pack_queue queue_count [])) in
    λ j. record { count = n j; partitions = b j; queues = c j }
