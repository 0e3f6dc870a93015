-- The claims about the picture's definitions, each by its proof.
use Rattle.picture.specs.Claims.{Largest, LoadsAfterCrash, LoadsBack, NoOtherBytes, ReadsBack}
use Rattle.picture.proofs.InOrder.{order-reads}
use Rattle.picture.proofs.Lengths.{picture-most}
use Rattle.picture.proofs.Loads.{load-after-crash, load-back}
use Rattle.picture.proofs.RoundTrip.{only-written}

pub claimed : ReadsBack × NoOtherBytes × Largest × LoadsBack × LoadsAfterCrash
claimed = (
  order-reads,
  λ v bs x r a e. let w = only-written v bs x r a e in (w.0, w.2),
  picture-most,
  load-back,
  load-after-crash,
)
