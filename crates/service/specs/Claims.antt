-- What is proved of the calls together: demands 1 to 3 on the tables as they are stored, whatever calls came before.
use Rattle.std.specs.Prelude.{false, true, List, ◌≡◌, ◌≤◌, ℕ, length, Result}
use Rattle.lists.specs.Lists.{all}
use Rattle.protocol.specs.Bounds.{max_partitions}
use Rattle.protocol.specs.Claims.{Decides, Ends, Takes}
use Rattle.protocol.specs.Demands.{AllAccounted, AllUp, NamesHold, is_step}
use Rattle.protocol.specs.Events.{crashing, Event, apply, run}
use Rattle.protocol.specs.Order.{in_order}
use Rattle.protocol.specs.Settle.{settle}
use Rattle.protocol.specs.Tables.{Model, fresh, is_partition, partition}
use Rattle.protocol.specs.declared.Refusal.{Refusal}
use Rattle.protocol.specs.declared.Refusal.TheVariants.{Accepted}
use Rattle.protocol.specs.declared.Tally.{Tally}
use Rattle.tables.specs.View.{pack, view}
use Rattle.tables.specs.declared.Tables.{Tables}
use Rattle.answers.specs.Called.{accepted_with, called}
use Rattle.answers.specs.declared.Answered.{Answered}
use Rattle.settle.specs.Settled.{settled, settled_on}
use Rattle.settle.specs.declared.Settled.{Settled}
use Rattle.protocol.specs.declared.Reply.TheVariants.{None}
use Rattle.codec.specs.Codec.{is_byte}
use Rattle.picture.specs.Picture.{largest_picture}
use Rattle.writing.specs.Written.{after, written_from}
use Rattle.loading.specs.Loaded.{loaded}
use Rattle.service.specs.Calls.{picture_in, reached_by}

-- Demand 2: a call on stored tables in order answers as document 01's event does, and stores what that leaves.
pub record CallsFollow : Type 0 where
  pub answers : (e : Event) (m : Model) → in_order m ≡ true → (called (pack m) e).answer ≡ (apply e m).answer
  pub tables : (e : Event) (m : Model) → in_order m ≡ true → (called (pack m) e).tables ≡ pack (apply e m).model
  pub settles : (n : ℕ) (y : Tally) (m : Model) → in_order m ≡ true → settled (pack m) n y ≡ settled_on (pack m) (settle n y m)
  -- and so after any sequence of calls from a fresh start
  pub means : (k : ℕ) → 1 ≤ k → k ≤ max_partitions → (es : List Event) → view (reached_by k es) ≡ run es (fresh k)

-- Demand 3's first sentence, of what is stored.
pub record CodeHolds : Type 0 where
  pub names_hold : (k : ℕ) → 1 ≤ k → k ≤ max_partitions → (es : List Event) → NamesHold (view (reached_by k es))
  pub accounted : (k : ℕ) → 1 ≤ k → k ≤ max_partitions → (es : List Event) → AllAccounted (view (reached_by k es))

-- Demand 3's second sentence, of what is stored; and a settling run takes and counts its steps.
pub record CodeSettles : Type 0 where
  pub ends : (k : ℕ) → 1 ≤ k → k ≤ max_partitions → (es : List Event) → AllUp (view (reached_by k es))
      → (steps : List Event) → all is_step steps ≡ true → Ends (view (reached_by k es)) steps
  pub takes : (k : ℕ) → 1 ≤ k → k ≤ max_partitions → (es : List Event) (n : ℕ) (y : Tally)
      → Takes n (view (reached_by k es)) (settle n y (view (reached_by k es)))

-- Demand 2's last sentence, of the bytes that are written: loaded into the partition that they were written from, while it is
-- down or after it crashed, they give back the tables as they stand.
pub record PicturesReturn : Type 0 where
  pub back : (m : Model) (p : ℕ) (room : List ℕ) → in_order m ≡ true → is_partition m p ≡ true → largest_picture ≤ length room → (partition m p).up ≡ false
      → loaded (pack m) p (picture_in (pack m) p room) ≡ accepted_with (pack m) 0 None
  pub after_crash : (m : Model) (p : ℕ) (room : List ℕ) → in_order m ≡ true → is_partition m p ≡ true → largest_picture ≤ length room → (partition m p).up ≡ true
      → loaded (called (pack m) (crashing p)).tables p (picture_in (pack m) p room) ≡ accepted_with (called (pack m) (crashing p)).tables 0 None
  -- the other way round: of any bytes that are loaded into any tables, the very same are written
  pub again : (t : Tables) (p : ℕ) (bs room : List ℕ) → all is_byte bs ≡ true → (loaded t p bs).answer.refusal ≡ Accepted → largest_picture ≤ length room
      → picture_in (loaded t p bs).tables p room ≡ bs

-- Demand 1's "no two outcomes satisfy one statement", of every public call that has one.
pub record OneOutcome : Type 0 where
  pub event : (e : Event) → Decides (λ (t : Tables) (a : Answered). a ≡ called t e)
  pub settle : (n : ℕ) (y : Tally) → Decides (λ (t : Tables) (s : Settled). s ≡ settled t n y)
  pub load : (p : ℕ) (bs : List ℕ) → Decides (λ (t : Tables) (a : Answered). a ≡ loaded t p bs)
  pub write_reports : (t : Tables) (p : ℕ) (room : List ℕ) (r s : Result ℕ Refusal) (a b : List ℕ) → after r a ≡ written_from t p room → after s b ≡ written_from t p room → r ≡ s
  pub write_leaves : (t : Tables) (p : ℕ) (room : List ℕ) (r s : Result ℕ Refusal) (a b : List ℕ) → after r a ≡ written_from t p room → after s b ≡ written_from t p room → a ≡ b
