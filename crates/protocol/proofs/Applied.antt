-- The tested event: on tables in order it is the bare one, on others it refuses.
use mathlib.Core.Bool.{Bool, false, true}
use mathlib.Core.List.{List, [], ◌∷◌}
use mathlib.Core.Path.{◌∙◌, ◌≡◌, ap, refl, sym}
use Rattle.protocol.specs.Answers.{Outcome, accepted, check, refuse}
use Rattle.protocol.specs.Claims.{ToldLast}
use Rattle.protocol.specs.Elements.{OutOfOrder, is_other}
use Rattle.protocol.specs.Events.{advancing, crashing, creating, cutting, delivering, Event, linking, opening, recovering, unlinking, apply, bare, passes, run, tests}
use Rattle.protocol.specs.Order.{in_order}
use Rattle.protocol.specs.Tables.{Model}
use Rattle.lists.proofs.Tests.{by_test, no_true}
use Rattle.protocol.proofs.Kept.{keeps-order}
use Rattle.protocol.proofs.Refusals.{Fair, Says, event-fair, fair-kept, fair-order, fair-reply, is_out_of_order, untested-fair}
use Rattle.protocol.proofs.Tells.{order-whole}

passes-true : (t : Bool) (m : Model) → in_order m ≡ true → passes t m ≡ true
passes-true true m o = o
passes-true false m o = refl

pub apply-is : (e : Event) (m : Model) → in_order m ≡ true → apply e m ≡ bare e m
unfolding apply check
apply-is e m o = rw (passes-true (tests e) m o) refl

pub apply-order : (e : Event) (m : Model) → in_order m ≡ true → in_order (apply e m).model ≡ true
apply-order e m o = rw (apply-is e m o) (keeps-order e m o)

pub run-order : (es : List Event) (m : Model) → in_order m ≡ true → in_order (run es m) ≡ true
unfolding run
run-order [] m o = o
run-order (e ∷ es) m o = run-order es (apply e m).model (apply-order e m o)

pub never-sixteen : (e : Event) (m : Model) → in_order m ≡ true → (apply e m).answer.refusal ≡ OutOfOrder → ⊥
never-sixteen e m o h =
    let f : is_out_of_order (bare e m).answer.refusal ≡ false = fair-order (event-fair m e (order-whole m o)) in
    no_true (ap is_out_of_order (sym (ap (λ (x : Outcome). x.answer.refusal) (apply-is e m o)) ∙ h)) f

-- a refusal changes nothing, on any tables
pub refused-keeps : (e : Event) (m : Model) → accepted (apply e m) ≡ false → apply e m ≡ refuse (apply e m).answer.refusal m
unfolding apply check
refused-keeps e m a =
    by_test (passes (tests e) m)
    (λ t.
    let q : apply e m ≡ bare e m = rw (t, apply, check) refl in
    rw q (fair-kept (fair e (tests e) refl t) (ap accepted (sym q) ∙ a)))
    (λ t. rw t refl)
  where
    fair : (e : Event) (b : Bool) → tests e ≡ b → passes (tests e) m ≡ true → Fair m (Says m e) (bare e m)
    fair e true b t = event-fair m e (order-whole m (rw b at t))
    fair e false b t = untested-fair m e b

-- a failure is told only by the advance that closes or turns its record
pub told-last : (e : Event) (m : Model) → in_order m ≡ true → is_other (apply e m).answer.reply ≡ true → ToldLast e (apply e m).model
told-last e m o h =
    let q : apply e m ≡ bare e m = apply-is e m o in
    rw q (go e (fair-reply (event-fair m e (order-whole m o)) (ap (λ (y : Outcome). is_other y.answer.reply) (sym q) ∙ h))
    (ap (λ (y : Outcome). is_other y.answer.reply) (sym q) ∙ h))
  where
    go : (e : Event) → Says m e (bare e m).answer.reply (bare e m).model → is_other (bare e m).answer.reply ≡ true → ToldLast e (bare e m).model
    go (linking p d s q o) f h = no_true h f
    go (creating p d s q o) f h = no_true h f
    go (unlinking p d s) f h = no_true h f
    go (advancing p n) f h = f h
    go (delivering s r) f h = no_true h f
    go (cutting a b) f h = no_true h f
    go (crashing p) f h = no_true h f
    go (recovering p) f h = no_true h f
    go (opening k) f h = no_true h f
