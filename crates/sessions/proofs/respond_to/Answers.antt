use Rattle.std.proofs.Common.{refl}
use Rattle.rehearsal.specs.declared.Verb.TheVariants.{Advance, Crash, Create, Cut, Deliver, Link, Recover, Unlink}
use Rattle.sessions.specs.Session.{responded_to}
use Rattle.sessions.proofs.Responding.{by-event, by-verb}
use Rattle.sessions.proofs.respond_to.Goals.{in-Link, in-Create, in-Unlink, in-Advance, in-Deliver, in-Cut, in-Crash, in-Recover}
use Rattle.std.proofs.Common.{rules}
use Rattle.sessions.proofs.respond_to.Goals as goal

pub returns-in-Settle : goal.returns-in-Settle
unfolding responded_to
returns-in-Settle c = search (by-verb, rules)

pub returns-in-Totals : goal.returns-in-Totals
unfolding responded_to
returns-in-Totals c = search (by-verb, rules)

pub returns-in-Square : goal.returns-in-Square
unfolding responded_to
returns-in-Square c = search (by-verb, rules)

pub returns-in-Open : goal.returns-in-Open
unfolding responded_to
returns-in-Open c = search (by-verb, rules)

pub returns : goal.returns
unfolding responded_to
returns c = elim c.match-c.branch [
  | in-Link w ↦ by-event _ Link _ _ _ _ _ _ w.in-Link.is w.event-is w.link-event.ensures c.after_event.ensures refl
  | in-Create w ↦ by-event _ Create _ _ _ _ _ _ w.in-Create.is w.event-is w.create-event.ensures c.after_event.ensures refl
  | in-Unlink w ↦ by-event _ Unlink _ _ _ _ _ _ w.in-Unlink.is w.event-is w.unlink-event.ensures c.after_event.ensures refl
  | in-Advance w ↦ by-event _ Advance _ _ _ _ _ _ w.in-Advance.is w.event-is w.advance-event.ensures c.after_event.ensures refl
  | in-Deliver w ↦ by-event _ Deliver _ _ _ _ _ _ w.in-Deliver.is w.event-is w.deliver-event.ensures c.after_event.ensures refl
  | in-Cut w ↦ by-event _ Cut _ _ _ _ _ _ w.in-Cut.is w.event-is w.cut-event.ensures c.after_event.ensures refl
  | in-Crash w ↦ by-event _ Crash _ _ _ _ _ _ w.in-Crash.is w.event-is w.crash-event.ensures c.after_event.ensures refl
  | in-Recover w ↦ by-event _ Recover _ _ _ _ _ _ w.in-Recover.is w.event-is w.recover-event.ensures c.after_event.ensures refl
]
