-- The worked rehearsal, computed from its text to the text of its answers.
use mathlib.Core.Path.{◌≡◌, refl}
use Rattle.lists.specs.Lists.{pad}
use Rattle.protocol.proofs.Examples.{opened}
use Rattle.rehearsal.specs.Line.{asked, behind, command_of, fits, is_number, name_among, not_understood, up_to, value_after, values}
use Rattle.rehearsal.specs.Rehearsal.{answered_from, lines_from, rehearsal, respond, respond_to}
use Rattle.rehearsal.specs.Answers.{row, rows}
use Rattle.rehearsal.specs.Text.{decimal_of, digits_within, line_text, rest_text, spaced}
use Rattle.rehearsal.specs.Worked.{answers, read_answers, read_schedule, schedule}
use Rattle.rehearsal.proofs.Rows.{tabled}

-- every definition opened: a proof that names it computes with all of them
unfoldable pub rehearsing : Unit {0}
unfolding opened tabled pad asked behind command_of fits is_number name_among not_understood up_to value_after values answered_from lines_from rehearsal respond respond_to row rows decimal_of digits_within line_text rest_text spaced
rehearsing = tt

pub worked : rehearsal schedule ≡ answers
unfolding rehearsing
worked = refl

pub worked-readings : rehearsal read_schedule ≡ read_answers
unfolding rehearsing
worked-readings = refl
