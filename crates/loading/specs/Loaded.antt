-- What load gives on the stored tables: the answer of document 01's definition, and the tables after it, stored.
use Rattle.std.specs.Prelude.{List, ℕ}
use Rattle.lists.specs.Lists.{pick}
use Rattle.protocol.specs.declared.Refusal.TheVariants.{OutOfOrder}
use Rattle.protocol.specs.Answers.{Outcome, accept, check, refuse}
use Rattle.protocol.specs.Order.{in_order}
use Rattle.protocol.specs.Tables.{Model}
use Rattle.protocol.specs.declared.Reply.TheVariants.{None}
use Rattle.tables.specs.View.{shaped, view, view_partition}
use Rattle.tables.specs.declared.Partition.{Partition as Stored}
use Rattle.tables.specs.declared.Tables.{Tables}
use Rattle.answers.specs.Called.{stored}
use Rattle.answers.specs.declared.Answered.{Answered}
use Rattle.picture.specs.Picture.{Picture}
use Rattle.picture.specs.Store.{load}
use Rattle.picture.specs.declared.Head.{Head}

-- any bytes into partition p, whatever the tables hold; tables that are not shaped are out of order
unfoldable pub loaded : Tables → ℕ → List ℕ → Answered
loaded t p bs = stored t (pick (shaped t) (load (view t) p bs) (refuse OutOfOrder (view t)))

-- the picture that a header and stored tables are
abbrev pub shown_by : Head → Stored → Picture
shown_by h x = record { partition = h.partition; count = h.count; tables = view_partition x }

-- "then 16 if the result is out of order": m with n in its place
abbrev pub replaced : Model → Model → Outcome
replaced m n = check (in_order n) OutOfOrder m (accept 0 None n)
