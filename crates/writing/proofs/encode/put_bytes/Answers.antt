use borrow.Rule.Slice.PartMut.{Post-is}
use Rattle.std.proofs.Common.{◌∙◌, ◌+◌, ◌++◌, ap, append_assoc, arith, drop, length, sym, take, List, ℕ}
use Rattle.codec.specs.Over.{over}
use Rattle.writing.proofs.encode.put_bytes.Goals as goal

pub returns : goal.returns
unfolding over
returns c =
    let l = c.args.buf.now in
    let at = c.args.at in
    let bytes = c.args.bytes.now in
    rw c.copy_from_slice.ensures.after
    (ap (λ (z : List ℕ). take at l ++ (bytes ++ z)) (Post-is at (at + length bytes) l (omega arith)) ∙ sym (append_assoc (take at l) bytes (drop (at + length bytes) l)))
