-- A settling run, on the stored tables (document 01, 'Settle n').
use Rattle.std.specs.Prelude.{◌+◌, ◌≤◌, ℕ}
use Rattle.lists.specs.Lists.{pick}
use Rattle.protocol.specs.Bounds.{largest_number}
use Rattle.protocol.specs.Elements.{is_accepted}
use Rattle.protocol.specs.Settle.{settle, Settled as Run}
use Rattle.protocol.specs.declared.Refusal.TheVariants.{OutOfOrder}
use Rattle.protocol.specs.declared.Reply.TheVariants.{None}
use Rattle.protocol.specs.declared.Tally.{Tally}
use Rattle.tables.specs.View.{pack, shaped, view}
use Rattle.tables.specs.declared.Tables.{Tables}
use Rattle.answers.specs.declared.Answered.{Answered}
pub use Rattle.settle.specs.declared.Settled.{Settled}

-- a refusal gives back the tables that were lent
unfoldable pub settled_on : Tables → Run → Settled
settled_on t s = record { refusal = s.refusal; tally = s.tally; tables = pick (is_accepted s.refusal) (pack s.model) t }

abbrev pub out_of_order : Tally → Tables → Run
out_of_order y t = record { refusal = OutOfOrder; tally = y; model = view t }

-- settle n on the tables t, whatever they hold, with the tally y that the caller lends; tables that are not shaped are out of order
unfoldable pub settled : Tables → ℕ → Tally → Settled
settled t n y = settled_on t (pick (shaped t) (settle n y (view t)) (out_of_order y t))

-- what is answered beside the tally: "reports how many it took"
abbrev pub reported : Settled → Answered
reported s = record { answer = record { refusal = s.refusal; number = pick (is_accepted s.refusal) s.tally.steps 0; reply = None }; tables = s.tables }

-- room for one step more in each count
pub record Counts (y : Tally) : Type 0 where
  pub steps : y.steps + 1 ≤ largest_number
  pub ones : y.ones + 1 ≤ largest_number
  pub others : y.others + 1 ≤ largest_number
