-- The starred cases and the worked rehearsal, computed.
use mathlib.Core.List.{map}
use mathlib.Core.Path.{◌≡◌, refl}
use Rattle.lists.specs.Lists.{all, any, apart, below, each, every, keep, map_from, map_if, total, without}
use Rattle.names.specs.Names.{good_name, name_of, same_bytes, same_name}
use Rattle.names.specs.Text.{bytes}
use Rattle.protocol.specs.Advance.{advance, next, perform}
use Rattle.protocol.specs.Answers.{check}
use Rattle.protocol.specs.Ask.{ask, ask_tables, unlink}
use Rattle.protocol.specs.Deliver.{carry_out, deliver, verdict}
use Rattle.protocol.specs.Events.{answers, apply, bare, run}
use Rattle.protocol.specs.Example.{answered, left, schedule}
use Rattle.protocol.specs.Faults.{crash, cut, lose, open_tables, recover}
use Rattle.protocol.specs.Lines.{lines}
use Rattle.protocol.specs.Order.{o1, o2, o3, o4, o5, o6, o7, given_by, in_order, in_range, matches, numbers_given, partition_in_range}
use Rattle.protocol.specs.Settle.{advances, deliveries, first_accepted, settle, settle_by, steps_by}
use Rattle.protocol.specs.Starred.{starred, worked}
use Rattle.protocol.specs.Tables.{Model, change_backpointers, change_entries, change_records, claimed, fresh, fresh_partition, give_number, no_partition, partition, queue, send, set_partition, set_queue, set_up, totals}

-- every definition opened: a proof that names it computes with all of them
unfoldable pub opened : Unit {0}
unfolding every below each all any apart keep without map_if map_from good_name same_bytes same_name name_of bytes no_partition partition queue claimed set_partition set_queue set_up change_entries change_backpointers change_records give_number send fresh_partition fresh total in_range partition_in_range o1 o2 o3 o4 o5 o6 o7 given_by numbers_given matches in_order check ask_tables ask unlink next perform advance verdict carry_out deliver lose cut crash recover open_tables bare apply run answers advances deliveries first_accepted settle_by steps_by settle starred schedule answered
opened = tt

pub starred-cases : map worked starred ≡ starred
unfolding opened
starred-cases = refl

pub rehearsed : (m : Model) → lines schedule m ≡ answered
unfolding opened
rehearsed m = refl

pub rehearsed-left : (m : Model) → totals (run schedule m) ≡ left
unfolding opened
rehearsed-left m = refl
