-- What the writes of one list store: the stored form of the list that it then means.
use mathlib.Core.List.{List, [], ◌++◌, ◌∷◌}
use mathlib.Core.Path.{◌≡◌, ap}
use Prim.Native.Nat.{◌+◌, ◌-◌, ◌<◌, ◌≤◌, ℕ}
use lib.ListN.{length, replicate, set}
use Rattle.std.specs.List.{copy_within}
use Rattle.lists.specs.Lists.{remove_at}
use Rattle.lists.specs.declared.Bounded.{Bounded}
use Rattle.tables.specs.View.{list_of, pack_list}
use Rattle.lists.proofs.Fills.{pad-none}
use Rattle.lists.proofs.Gaps.{changed-count, changed-items, grown-count, grown-items, shrunk-count, shrunk-items}

module _ {A : Type 0} (N : ℕ) (z : A) where
  pub none-packed : (w : A) → w ≡ z → record { count = 0; items = replicate N w } ≡ pack_list N z []
  none-packed w e = rw e (λ i. record { count = 0; items = pad-none N z i })

  module _ (l : Bounded A N) (e : pack_list N z (list_of l) ≡ l) where
    counted : length (list_of l) ≡ l.count
    counted = ap (λ (y : Bounded A N). y.count) e

    filled : (pack_list N z (list_of l)).items ≡ l.items
    filled = ap (λ (y : Bounded A N). y.items) e

    pub added : (x : A) → l.count < N → record { count = l.count + 1; items = set l.items l.count x } ≡ pack_list N z (list_of l ++ x ∷ [])
    added x h =
        let a = grown-count N l.count z l.items (list_of l) filled counted x in
        let b = grown-items N l.count z l.items (list_of l) filled counted x h in
        λ i. record { count = a i; items = b i }

    pub removed : (k : ℕ) (ys : List A) (w : A) → k < l.count → l.count ≤ N → length l.items ≡ N → ys ≡ copy_within l.items (k + 1) l.count k → w ≡ z
        → record { count = l.count - 1; items = set ys (l.count - 1) w } ≡ pack_list N z (remove_at k (list_of l))
    removed k ys w h g s y q =
        let a = shrunk-count N l.count z l.items (list_of l) filled counted k h in
        let b = shrunk-items N l.count z l.items (list_of l) filled counted k h g s in
        rw (y, q) (λ i. record { count = a i; items = b i })

    pub changed : (k : ℕ) (x : A) → k < l.count → record { count = l.count; items = set l.items k x } ≡ pack_list N z (set (list_of l) k x)
    changed k x h =
        let a = changed-count N l.count z l.items (list_of l) filled counted k x in
        let b = changed-items N l.count z l.items (list_of l) filled counted k x h in
        λ i. record { count = a i; items = b i }
