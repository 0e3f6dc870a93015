-- The claims, each from its proof.
use mathlib.Core.Bool.{true}
use mathlib.Core.List.{List}
use mathlib.Core.Path.{◌∙◌, ◌≡◌, sym}
use Prim.Native.Nat.{◌≤◌, ℕ}
use Rattle.lists.specs.Lists.{all}
use Rattle.protocol.specs.Bounds.{max_partitions}
use Rattle.protocol.specs.Claims.{Cases, Decides, Ends, FailuresLast, OneOutcome, OrderKept, RefusalsKeep, Room, Safety, Settles, Settling}
use Rattle.protocol.specs.Demands.{AllUp, is_step}
use Rattle.protocol.specs.Events.{Event, apply, run}
use Rattle.protocol.specs.Settle.{settle}
use Rattle.protocol.specs.Tables.{Model, fresh}
use Rattle.protocol.proofs.Applied.{apply-order, never-sixteen, refused-keeps, run-order, told-last}
use Rattle.protocol.proofs.Bound.{bound}
use Rattle.protocol.proofs.Examples.{rehearsed, rehearsed-left, starred-cases}
use Rattle.protocol.proofs.Progress.{go_on, steps_up}
use Rattle.protocol.proofs.Reached.{Reached, fresh-reached, matched, run-reached}
use Rattle.protocol.proofs.Room.{answer-room, asked-room, entry-room, one_entry, one_key, one_name, one-record, one-removed, request-room, unlinked-room}
use Rattle.protocol.proofs.Safe.{accounted, all_held}
use Rattle.protocol.proofs.Settling.{settle-empties, settle-order, settle-refuses, settle-small, settle-takes, settle-untested, steps-empty}

reached : (k : ℕ) → 1 ≤ k → k ≤ max_partitions → (es : List Event) → Reached (run es (fresh k))
reached k h₁ h₄ es = run-reached es (fresh k) (fresh-reached k h₁ h₄)

pub order-kept : OrderKept
order-kept =
    record {
      kept = apply-order;
      not_sixteen = never-sixteen;
      always = λ k h₁ h₄ es. (reached k h₁ h₄ es).order;
      never_sixteen = λ k h₁ h₄ es e. never-sixteen e (run es (fresh k)) (reached k h₁ h₄ es).order;
    }

pub safety : Safety
safety = record { names_hold = λ k h₁ h₄ es. all_held (reached k h₁ h₄ es).ties; accounted = λ k h₁ h₄ es. accounted (reached k h₁ h₄ es).ties }

ended : (m : Model) → Reached m → AllUp m → (steps : List Event) → all is_step steps ≡ true → Ends m steps
ended m g u steps st =
    record {
      goes_on = go_on (run steps m) (run-order steps m g.order) (steps_up steps m g.order st u);
      eight = bound steps m g.order st;
      empties = steps-empty steps m g.order u st;
      matched = matched (run steps m) (run-reached steps m g);
    }

pub settles : Settles
settles = record {
  ends = λ k h₁ h₄ es u steps st. ended (run es (fresh k)) (reached k h₁ h₄ es) u steps st;
  eight = λ m o steps st.
      bound steps m o st;
}

pub settling : Settling
settling = record { takes = settle-takes; order = settle-order; untested = settle-untested; empties = settle-empties; small = settle-small }

pub refusals-keep : RefusalsKeep
refusals-keep = record { event = refused-keeps; settle = settle-refuses }

decided : {X R : Type 0} (f : X → R) → Decides (λ (x : X) (r : R). r ≡ f x)
decided f x a b p q = p ∙ sym q

pub one-outcome : OneOutcome
one-outcome = record { event = λ e. decided (apply e); settle = λ n t. decided (settle n t) }

pub failures-last : FailuresLast
failures-last = record { last = told-last }

pub cases : Cases
cases = record { starred = starred-cases; rehearsed = rehearsed; nothing_left = rehearsed-left }

pub room : Room
room =
    record {
      request = request-room;
      answer = λ m o s r x l hs hr q t. answer-room m o s r x l hs hr q t;
      entry = entry-room;
      asked = asked-room;
      unlinked = unlinked-room;
      records = one-record;
      entries = one_entry;
      names = one_name;
      places = one_key;
      removed = one-removed;
    }
