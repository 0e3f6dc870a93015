use Rattle.std.proofs.Common.{refl}
use Rattle.stream.proofs.Feeding.{feed-byte, feed-deed, feed-kept, feed-response, feed-said, feeding}
use Rattle.stream.proofs.blocks.feed.Goals.{in-Some, in_default}
use Rattle.std.proofs.Common.{rules}
use Rattle.stream.proofs.blocks.feed.Goals as goal

pub loop-b-init : goal.loop-b-init
loop-b-init c = search (feeding, rules)

pub loop-b-preserved-then-b-ne-LF : goal.loop-b-preserved-then-b-ne-LF
loop-b-preserved-then-b-ne-LF c = feed-byte _ _ _ _ _ _ _ c.loop-b.invariant c.loop-b-test.true c.if-b-ne-LF.true _ c.with_byte-line.ensures

pub loop-b-preserved : goal.loop-b-preserved
loop-b-preserved c = elim c.match-deed_of.branch [
  | in-Some w ↦
      rw (w.out-is, w.running-is, w.tables-is, w.place-is)
      (feed-deed _ _ _ _ _ _ _ c.loop-b.invariant c.loop-b-test.true c.if-b-ne-LF.false _ c.next_line-lines.ensures _ c.command_in-command.ensures _ c.no_bytes-line.ensures _ _
      _ _ refl _ w.in-Some.ensures _ w.numbers_said.ensures _ w.carry_out.ensures w.put_answer-place.ensures.adds w.put_answer-place.ensures.upper_bound)
  | in_default w ↦
      rw (w.out-is, w.running-is, w.tables-is, w.place-is)
      (feed-response _ _ _ _ _ _ _ c.loop-b.invariant c.loop-b-test.true c.if-b-ne-LF.false _ c.next_line-lines.ensures _ c.command_in-command.ensures _ c.no_bytes-line.ensures _ _
      _ w.respond-response.ensures w.put_answer-place-in_default.ensures.adds w.put_answer-place-in_default.ensures.upper_bound)
]

pub returns-clause-kept_value : goal.returns-clause-kept_value
returns-clause-kept_value c = feed-kept _ _ _ _ _ _ _ c.loop-b.invariant c.loop-b-test.false

pub returns-clause-adds : goal.returns-clause-adds
returns-clause-adds c = feed-said _ _ _ _ _ _ _ c.loop-b.invariant c.loop-b-test.false
