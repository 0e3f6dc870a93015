use Rattle.std.proofs.Common.{◌∙◌, ap}
use Rattle.protocol.specs.Elements.{refusal_number}
use Rattle.picture.specs.Lone.{refusal_of}
use Rattle.reading.proofs.Alone.{lone-told}
use Rattle.capi.proofs.picture_check.Goals as goal

pub returns-in-Ok : goal.returns-in-Ok
returns-in-Ok c = c.refusal_number.ensures ∙ ap refusal_number (ap refusal_of c.in-Ok.ensures ∙ lone-told c.args.bytes.now)

pub returns-in-Err : goal.returns-in-Err
returns-in-Err c = c.refusal_number-in-Err.ensures ∙ ap refusal_number (ap refusal_of c.in-Err.ensures ∙ lone-told c.args.bytes.now)
