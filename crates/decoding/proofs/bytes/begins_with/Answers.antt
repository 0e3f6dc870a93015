use Rattle.std.proofs.Common.{◌∙◌, ◌≡◌, ◌-◌, ap, drop, length, take, List, ℕ}
use Rattle.std.specs.Prelude.{nat_eq}
use Rattle.std.specs.List.{starts_with}
use borrow.Author.Rules.{part_to_end}
use Rattle.decoding.proofs.Ways.{mark-starts}
use Rattle.std.proofs.Common.{rules}
use Rattle.decoding.proofs.bytes.begins_with.Goals as goal

pub returns : goal.returns
returns c =
    let s = c.args.s.now in
    let at = c.args.at in
    let all : take (length s - at) (drop at s) ≡ drop at s = search (part_to_end, rules) in
    c.starts_with.ensures.value ∙ ap (λ (l : List ℕ). starts_with nat_eq l c.args.mark) all ∙ mark-starts (drop at s) c.args.mark (search rules)
