use Rattle.std.proofs.Common.{◌∙◌, rules, sym}
use Rattle.decoding.proofs.Fields.{record-fields, record-none}
use Rattle.decoding.proofs.RecordFromBytes.from_bytes.Goals as goal

pub returns-in_err-kind : goal.returns-in_err-kind
returns-in_err-kind c = rw c.from_residual.ensures (record-none c.args.s.now (search rules) (sym c.kind_of.ensures ∙ c.in_err-kind.was))

pub returns : goal.returns
returns c = record-fields c.args.s.now _ _ (search rules) (sym c.kind_of.ensures ∙ c.in_ok-kind.was) c.item_at-i.ensures
