-- What is proved of the picture's definitions: `claims` of src/lib.rt has it as its contract.
use Rattle.std.specs.Prelude.{true, false, List, [], ◌≡◌, ℕ, ◌≤◌, length}
use Rattle.lists.specs.Lists.{all}
use Rattle.names.specs.Names.{name_bytes}
use Rattle.codec.specs.Codec.{is_byte}
use Rattle.protocol.specs.declared.Reply.TheVariants.{None}
use Rattle.protocol.specs.Tables.{Model, is_partition, partition}
use Rattle.protocol.specs.Order.{in_order}
use Rattle.protocol.specs.Answers.{accept}
use Rattle.protocol.specs.Faults.{crash}
use Rattle.picture.specs.Rows.{more}
use Rattle.picture.specs.Picture.{Edition, Picture, first, picture_of, write, read, largest_picture}
use Rattle.picture.specs.Store.{load}

-- an edition holds no fewer of a name's bytes than it has, and no more than there are
abbrev pub Holds : Edition → Type 0
Holds v = (n : ℕ) → n ≤ name_bytes → (n ≤ v.held n) × (v.held n ≤ name_bytes)

-- what is written of a partition of tables in order is read back
abbrev pub ReadsBack : Type 0
ReadsBack =
    (v : Edition) → Holds v → (m : Model) (p : ℕ) → in_order m ≡ true → is_partition m p ≡ true → read v (write v (picture_of m p)) ≡ more (picture_of m p) []

-- and no other bytes are read
abbrev pub NoOtherBytes : Type 0
NoOtherBytes = (v : Edition) (bs : List ℕ) (x : Picture) (r : List ℕ) → all is_byte bs ≡ true → read v bs ≡ more x r → (bs ≡ write v x) × (r ≡ [])

abbrev pub Largest : Type 0
Largest = (m : Model) (p : ℕ) → in_order m ≡ true → is_partition m p ≡ true → length (write first (picture_of m p)) ≤ largest_picture

-- loaded into the partition that it was written from, while down, a picture changes nothing
abbrev pub LoadsBack : Type 0
LoadsBack =
    (m : Model) (p : ℕ) → in_order m ≡ true → is_partition m p ≡ true → (partition m p).up ≡ false → load m p (write first (picture_of m p)) ≡ accept 0 None m

-- written while up and loaded after a crash, it gives back the tables as the crash left them
abbrev pub LoadsAfterCrash : Type 0
LoadsAfterCrash =
    (m : Model) (p : ℕ) → is_partition m p ≡ true → (partition m p).up ≡ true → in_order (crash m p).model ≡ true
    → load (crash m p).model p (write first (picture_of m p)) ≡ accept 0 None (crash m p).model
