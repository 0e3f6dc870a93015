-- What a cut or a crash does to stored tables: something is lost, or it is refused.
use Rattle.std.specs.Prelude.{Result, Ok, Err}
use Rattle.protocol.specs.declared.Refusal.{Refusal}
use Rattle.protocol.specs.declared.Reply.TheVariants.{None}
use Rattle.tables.specs.View.{pack, view}
use Rattle.tables.specs.declared.Tables.{Tables}
use Rattle.answers.specs.Called.{accepted_with, refused_with}
use Rattle.answers.specs.declared.Answered.{Answered}
use Rattle.losses.specs.Lost.{lost}
use Rattle.losses.specs.declared.Loss.{Loss}

abbrev pub suffered : Tables → Result Loss Refusal → Answered
suffered t (Err why) = refused_with t why
suffered t (Ok loss) = accepted_with (pack (lost loss (view t))) 0 None
