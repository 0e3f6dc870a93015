-- The starred cases of document 01, 'Either side of a line', as one table.
use Rattle.std.specs.Prelude.{List, [], ◌∷◌, ℕ, replicate}
use Rattle.names.specs.Names.{name_of}
use Rattle.names.specs.Text.{spelled}
use Rattle.protocol.specs.Bounds.{largest_number}
use Rattle.protocol.specs.Elements.{Name, Tally}
use Rattle.protocol.specs.Events.{creating, Event, linking, opening, apply, run}
use Rattle.protocol.specs.Lines.{Line, line, lines}
use Rattle.protocol.specs.Settle.{settle, steps_by, zero_tally}
use Rattle.protocol.specs.Tables.{Model, fresh, partition, set_partition, with_last}

-- Events on tables, then a settle of n: what the events answer, the tally, and what the settling steps answer
pub record Case : Type 0 where
  pub before : Model
  pub events : List Event
  pub n : ℕ
  pub answered : List Line
  pub tally : Tally
  pub settled : List Line

abbrev pub case : Model → List Event → ℕ → List Line → Tally → List Line → Case
case m es n a t z = record { before = m; events = es; n = n; answered = a; tally = t; settled = z }

-- the case as the definitions have it
abbrev pub worked : Case → Case
worked c =
    case c.before c.events c.n (lines c.events c.before) (settle c.n zero_tally (run c.events c.before)).tally
    (lines (steps_by apply c.n (run c.events c.before)) (run c.events c.before))

abbrev pub name_of_length : ℕ → Name
name_of_length n = name_of (replicate n 97)

-- steps, replies 1, replies 2 to 6
abbrev pub counts : ℕ → ℕ → ℕ → Tally
counts steps ones others = record { steps = steps; ones = ones; others = others }

-- two partitions, of which 0 gave the number n last
abbrev pub gave : ℕ → Model
gave n = set_partition (fresh 2) 0 (with_last n (partition (fresh 2) 0))

unfoldable pub starred : List Case
starred =
    -- "Name of 8 bytes* accepted, 9* gives 2."
    case (fresh 2) (creating 0 1 (name_of_length 8) 1 5 ∷ []) 0 (line 0 1 0 ∷ []) zero_tally []
    ∷ case (fresh 2) (creating 0 1 (name_of_length 9) 1 5 ∷ []) 0 (line 2 0 0 ∷ []) zero_tally []
    -- "Partition count 4* accepted, 0* and 5* give 1."
    ∷ case (fresh 2) (opening 4 ∷ []) 0 (line 0 0 0 ∷ []) zero_tally []
    ∷ case (fresh 2) (opening 0 ∷ []) 0 (line 1 0 0 ∷ []) zero_tally []
    ∷ case (fresh 2) (opening 5 ∷ []) 0 (line 1 0 0 ∷ []) zero_tally []
    -- "Last number 4,294,967,294 gives 4,294,967,295*; after that 11*."
    ∷ case (gave 4294967294) (creating 0 1 (spelled "map") 1 5 ∷ creating 0 1 (spelled "plan") 1 6 ∷ []) 0
    (line 0 4294967295 0 ∷ line 11 0 0 ∷ []) zero_tally []
    -- "Create, then settle: 5 steps*."
    ∷ case (fresh 2) (creating 0 1 (spelled "map") 1 5 ∷ []) largest_number (line 0 1 0 ∷ []) (counts 5 1 0)
    (line 0 1 0 ∷ line 0 1 0 ∷ line 0 1 0 ∷ line 0 1 1 ∷ line 0 1 0 ∷ [])
    -- "Two creates of one name in 0, objects 5 and 6 on 1, then settle: 13 steps*, one reply 1 and one reply 2."
    ∷ case (fresh 2) (creating 0 1 (spelled "map") 1 5 ∷ creating 0 1 (spelled "map") 1 6 ∷ []) largest_number
    (line 0 1 0 ∷ line 0 2 0 ∷ []) (counts 13 1 1)
    (line 0 1 0 ∷ line 0 2 0 ∷ line 0 1 0 ∷ line 0 2 0 ∷ line 0 1 0 ∷ line 0 1 1 ∷ line 0 1 0 ∷ line 0 2 0 ∷ line 0 2 2 ∷ line 0 2 0
    ∷ line 0 2 0 ∷ line 0 2 0 ∷ line 0 2 0 ∷ [])
    -- "Settle 0: no step*."
    ∷ case (fresh 2) (creating 0 1 (spelled "map") 1 5 ∷ []) 0 (line 0 1 0 ∷ []) (counts 0 0 0) []
    -- "Link to an idle object: reply 4*."
    ∷ case (fresh 2) (linking 0 1 (spelled "map") 1 5 ∷ []) largest_number (line 0 1 0 ∷ []) (counts 4 0 1)
    (line 0 1 0 ∷ line 0 1 0 ∷ line 0 1 0 ∷ line 0 1 4 ∷ [])
    ∷ []
