-- The claims, each from its proof.
use mathlib.Core.Path.{◌∙◌, subst, sym}
use Rattle.protocol.specs.Claims.{Ends, Takes}
use Rattle.protocol.specs.Demands.{AllAccounted, AllUp, NamesHold}
use Rattle.protocol.specs.Tables.{Model}
use Rattle.protocol.specs.Settle.{settle}
use Rattle.protocol.proofs.Claimed.{order-kept, safety, settles, settling}
use Rattle.writing.proofs.Writes.{one-report, one-room}
use Rattle.service.specs.Claims.{CallsFollow, CodeHolds, CodeSettles, OneOutcome, PicturesReturn}
use Rattle.service.proofs.Again.{writes_again}
use Rattle.service.proofs.Returned.{loads-after-crash, loads-back}
use Rattle.service.proofs.Follow.{call-answers, call-stores, calls-mean, settle-follows}

pub calls-follow : CallsFollow
calls-follow = record { answers = call-answers; tables = call-stores; settles = settle-follows; means = calls-mean }

pub code_holds : CodeHolds
code_holds =
    record {
      names_hold = λ k a b es. subst NamesHold (sym (calls-mean k a b es)) (safety.names_hold k a b es);
      accounted = λ k a b es. subst AllAccounted (sym (calls-mean k a b es)) (safety.accounted k a b es);
    }

pub code-settles : CodeSettles
code-settles =
    record {
      ends = λ k a b es u steps s. subst (λ (m : Model). Ends m steps) (sym (calls-mean k a b es))
          (settles.ends k a b es (subst AllUp (calls-mean k a b es) u) steps s);
      takes = λ k a b es n y. subst (λ (m : Model). Takes n m (settle n y m)) (sym (calls-mean k a b es))
          (settling.takes n y _ (order-kept.always k a b es));
    }

pub pictures-return : PicturesReturn
pictures-return = record { back = loads-back; after_crash = loads-after-crash; again = writes_again }

pub one-outcome : OneOutcome
one-outcome =
    record {
      event = λ e t a b p q. p ∙ sym q;
      settle = λ n y t a b p q. p ∙ sym q;
      load = λ k bs t a b p q. p ∙ sym q;
      write_reports = λ t p room r s a b x y. one-report r s a b (x ∙ sym y);
      write_leaves = λ t p room r s a b x y. one-room r s a b (x ∙ sym y);
    }
