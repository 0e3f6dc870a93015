use Rattle.std.proofs.Common.{arith, ◌∙◌, ap, take, drop, ℕ, ◌≡◌, ◌-◌, ◌+◌}
use Rattle.names.specs.Names.{name_bytes}
use Rattle.decoding.proofs.Fields.{name-at}
use Rattle.decoding.proofs.bytes.name_at.Goals as goal

pub returns : goal.returns
returns c =
    let n : c.args.at + 1 + name_bytes - (c.args.at + 1) ≡ name_bytes = omega arith in
    name-at c.args.s.now c.args.at _ (omega arith) (c.copy_from_slice.ensures.after ∙ ap (λ (k : ℕ). take k (drop (c.args.at + 1) c.args.s.now)) n)
