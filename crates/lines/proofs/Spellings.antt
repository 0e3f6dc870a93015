-- Spelling a name: its bytes copied over zeros.
use mathlib.Core.List.{List, ◌++◌}
use mathlib.Core.Path.{◌∙◌, ◌≡◌, ap, sym}
use Prim.Native.Nat.{◌+◌, ◌-◌, ◌≤◌, min, suc, ℕ}
use native.Mathlib.Omega.{arith}
use lib.ListN.{drop, length, length-take, replicate, take}
use Rattle.std.proofs.lemmas.List.{drop-replicate}
use lib.Dec.{leb}
use lib.Seq.{take_all}
use borrow.Author.Tests.{leb-false, leb-true}
use Rattle.lists.specs.Lists.{pad}
use Rattle.lists.proofs.Cuts.{take-filled}
use Rattle.lists.proofs.Tests.{by_test}
use Rattle.names.specs.Names.{name_bytes, name_of}

-- the first bytes over as many zeros
pub spelled : (w : List ℕ) (len kept : ℕ) (bytes : List ℕ) → len ≡ min (length w) (suc name_bytes) → kept ≡ min (length w) name_bytes
    → bytes ≡ take kept w → record { len = len; bytes = bytes ++ drop kept (replicate name_bytes 0) } ≡ name_of w
unfolding name_of pad
spelled w len kept bytes el ek eb =
    let t : take kept w ≡ take name_bytes w =
    by_test (leb (length w) name_bytes)
    (λ e. let h = leb-true _ _ e in take_all kept w (omega arith) ∙ sym (take_all name_bytes w h))
    (λ e. let h = leb-false _ _ e in let q : kept ≡ name_bytes = omega arith in ap (λ (k : ℕ). take k w) q)
    in
    let k : kept ≡ length (take name_bytes w) = omega (arith, length-take name_bytes w, ek) in
    let m : name_bytes ≤ length w + name_bytes = omega arith in
    let p : take name_bytes w ++ replicate (name_bytes - length (take name_bytes w)) 0 ≡ take name_bytes (w ++ replicate name_bytes 0) =
    sym (take-filled 0 name_bytes name_bytes w m)
    in
    let q : bytes ++ drop kept (replicate name_bytes 0) ≡ take name_bytes (w ++ replicate name_bytes 0) =
    rw (eb, t, drop-replicate {X = ℕ} kept name_bytes 0) (rw k p)
    in
    λ i. record { len = el i; bytes = q i }
