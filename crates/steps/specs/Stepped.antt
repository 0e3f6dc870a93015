-- A settling step, on the stored tables (document 01, 'Settle n').
use Rattle.std.specs.Prelude.{Option, Some, None, List, [], ◌∷◌, map, ℕ}
use Rattle.lists.specs.Lists.{each, pick}
use Rattle.protocol.specs.Elements.{is_accepted}
use Rattle.protocol.specs.Events.{advancing, delivering, Event, bare}
use Rattle.protocol.specs.Settle.{Found, found, nothing}
use Rattle.protocol.specs.Tables.{Model, partition, partition_count}
use Rattle.protocol.specs.declared.Record.{Record}
use Rattle.tables.specs.View.{pack, view}
use Rattle.tables.specs.declared.Tables.{Tables}
use Rattle.answers.specs.declared.Answered.{Answered}
pub use Rattle.steps.specs.declared.Step.{Step}

-- ---- the candidates, partition by partition

unfoldable pub advances_of : Model → ℕ → List Event
advances_of m p = map (λ (r : Record). advancing p r.number) (partition m p).records

unfoldable pub deliveries_from : Model → ℕ → List Event
deliveries_from m s = each (partition_count m) (λ r. delivering s r ∷ [])

-- ---- one step

-- what was tried is taken, if it was accepted
abbrev pub tried : Answered → Option Step
tried a = pick (is_accepted a.answer.refusal) (Some (record { reply = a.answer.reply; tables = a.tables })) None

-- the event that was found is taken
unfoldable pub step_of : Tables → Found → Option Step
step_of t nothing = None
step_of t (found e) = Some (record { reply = (bare e (view t)).answer.reply; tables = pack (bare e (view t)).model })
