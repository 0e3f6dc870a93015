use Rattle.service.proofs.Claimed.{calls-follow, code_holds, code-settles, one-outcome, pictures-return}
use Rattle.service.proofs.claims.Goals as goal

pub returns : goal.returns
returns c = (calls-follow, code_holds, code-settles, pictures-return, one-outcome)
