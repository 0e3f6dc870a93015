-- What the functions that read answer, by the definitions of `Rows` and `Picture`.
use Rattle.std.specs.Prelude.{◌≡◌, Bool, List, [], ℕ, ◌+◌, ◌*◌, ◌≤◌, length, drop, Result, Ok, Err, IfOk}
use Rattle.lists.specs.Lists.{pick}
use Rattle.codec.specs.Over.{over}
use Rattle.protocol.specs.declared.Refusal.{Refusal}
use Rattle.protocol.specs.declared.Refusal.TheVariants.{FieldOutOfRange}
use Rattle.protocol.specs.Tables.{no_partition}
use Rattle.tables.specs.declared.Partition.{Partition as Stored}
use Rattle.tables.specs.View.{list_of, pack_list, entries_of, backpointers_of, records_of, view_partition, pack_partition, Ranged}
use Rattle.picture.specs.declared.Head.{Head}
use Rattle.picture.specs.declared.Item.{Item}
use Rattle.picture.specs.declared.Gathered.{Gathered}
use Rattle.picture.specs.declared.Picture.{Picture as Shown}
use Rattle.picture.specs.declared.Sections.{Sections}
use Rattle.picture.specs.Rows.{Row, put_row, put_rows, Read, fail, more}
use Rattle.picture.specs.Picture.{Picture, ItemFields, Items, first, head_of, picture_from, read}

abbrev pub item_of : Item → ItemFields
item_of i = (i.a, (i.b, (i.c, (i.name, i.number))))

module _ {A : Type 0} where
  -- the reading that a result tells of, of a record of so many bytes
  abbrev pub told : ℕ → List ℕ → Result A Refusal → Read A
  told size bs (Ok x) = more x (drop size bs)
  told size bs (Err why) = fail why

  -- one record more of a kind, of which there may be no more where it is full
  abbrev pub within : Bool → Read A → Read A
  within full (fail why) = fail why
  within full (more x r) = pick full (fail FieldOutOfRange) (more x r)

module _ {A : Type 0} {cap : ℕ} where
  -- the records of one kind, from a place on, as the reading that they tell of
  abbrev pub gathered : List ℕ → Result (Gathered A cap) Refusal → Read (List A)
  gathered bs (Ok g) = more (list_of g.list) (drop g.end bs)
  gathered bs (Err why) = fail why

  -- they are in their stored form, with z in the free slots, and their end is in the bytes
  pub record Kept (z : A) (bs : List ℕ) (g : Gathered A cap) : Type 0 where
    pub packed : pack_list cap z (list_of g.list) ≡ g.list
    pub place : g.end ≤ length bs
    pub bound : g.list.count ≤ cap

-- ---- the tables of a picture, as the code stores them

abbrev pub items_in : Stored → Items first
items_in x = (entries_of x.entries, (backpointers_of x.backpointers, (records_of x.records, tt)))

-- the sections behind a header, as the reading that they tell of
abbrev pub tabled : List ℕ → Result Sections Refusal → Read (Items first)
tabled bs (Ok t) = more (items_in t.tables) (drop t.end bs)
tabled bs (Err why) = fail why

-- they are stored as the tables that they show, and their end is in the bytes
pub record Tabled (h : Head) (bs : List ℕ) (t : Sections) : Type 0 where
  pub stored : t.tables ≡ pack_partition (picture_from first h (items_in t.tables)).tables
  pub place : t.end ≤ length bs
  pub counted : Ranged t.tables

-- the close of a picture of n records
abbrev pub told_close : ℕ → Result Unit Refusal → Read ℕ
told_close n (Ok u) = more n []
told_close n (Err why) = fail why

-- ---- a whole picture

unfoldable pub no_picture : Picture
no_picture = record { partition = 0; count = 0; tables = no_partition }

-- what is read, stored
abbrev pub picture_read : Read Picture → Result Shown Refusal
picture_read (fail why) = Err why
picture_read (more x r) = Ok (record { head = head_of x; tables = pack_partition x.tables })

-- and back
abbrev pub picture_of_shown : Shown → Picture
picture_of_shown p = record { partition = p.head.partition; count = p.head.count; tables = view_partition p.tables }

abbrev pub told_picture : Result Shown Refusal → Read Picture
told_picture (Ok p) = more (picture_of_shown p) []
told_picture (Err why) = fail why

pub record Pictured (bs : List ℕ) (r : Result Shown Refusal) : Type 0 where
  pub answer : r ≡ picture_read (read first bs)
  pub telling : told_picture r ≡ read first bs
  pub counted : IfOk r (λ p. Ranged p.tables)

-- ---- what is put into lent bytes

module _ {A : Type 0} (w : Row A) (size : ℕ) (l : List ℕ) (at : ℕ) where
  -- a record of so many bytes, laid over l from `at` on; `next` is behind it
  pub record Put (x : A) (next : ℕ) (b : List ℕ) : Type 0 where
    pub place : next ≡ at + size
    pub long : length (put_row w x) ≡ size
    pub bytes : b ≡ over l at (put_row w x)

  -- some records, one behind another
  pub record PutAll (xs : List A) (next : ℕ) (b : List ℕ) : Type 0 where
    pub place : next ≡ at + size * length xs
    pub long : length (put_rows w xs) ≡ size * length xs
    pub bytes : b ≡ over l at (put_rows w xs)
