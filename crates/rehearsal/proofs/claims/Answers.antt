use Rattle.rehearsal.proofs.Examples.{worked, worked-readings}
use Rattle.rehearsal.proofs.Lengths.{line-most}
use Rattle.rehearsal.proofs.Outcomes.{one_place, one-text}
use Rattle.rehearsal.proofs.Rows.{one-reading}
use Rattle.rehearsal.proofs.Returns.{number-back, value-back}
use Rattle.rehearsal.proofs.claims.Goals as goal

pub returns : goal.returns
returns c = (record { document = worked; readings = worked-readings }, record { alone = one-reading }, record { number = number-back; value = value-back }, record { bound = line-most }, record { bytes = one-text; place = one_place })
