-- The picture of one partition's stable tables: its kinds of record, written and read (document 01, 'The picture').
use Rattle.std.specs.Prelude.{Bool, false, ◌&&◌, ◌||◌, List, [], ◌∷◌, ◌++◌, map, ℕ, eqb, leb, ltb, take}
use Rattle.lists.specs.Lists.{pick, every, pad}
use Rattle.names.specs.Names.{name_bytes, same_bytes}
use Rattle.names.specs.declared.Name.{Name}
use Rattle.codec.specs.Codec.{Codec, byte, word, long, run, then, both, those, via, always}
use Rattle.protocol.specs.declared.Kind.{Kind}
use Rattle.protocol.specs.declared.Kind.TheVariants.{Link, Create, Unlink}
use Rattle.protocol.specs.declared.Stage.TheVariants.{Ready}
use Rattle.protocol.specs.declared.Entry.{Entry}
use Rattle.protocol.specs.declared.Backpointer.{Backpointer}
use Rattle.protocol.specs.declared.Record.{Record}
use Rattle.protocol.specs.declared.Refusal.TheVariants.{FieldOutOfRange, CountWrong, BytesAfterClose}
use Rattle.protocol.specs.Bounds.{max_partitions, max_entries, max_backpointers, max_records}
use Rattle.protocol.specs.Elements.{kind_number, is_ready}
use Rattle.protocol.specs.Tables.{Partition, Model, partition_count, partition, in_stage}
use Rattle.partitions.specs.Clauses.{entry_among, backpointer_among, record_among, given}
use Rattle.picture.specs.declared.Head.{Head}
use Rattle.picture.specs.Rows.{Row, put_row, Read, fail, more, next, one, Section, Table, close, ◌before◌, Contents, put_table, read_table, counted}

-- ---- the letters of the marks HD, EN, BP, LG and ED, which are capitals

abbrev pub letter_b : ℕ
letter_b = 66

abbrev pub letter_d : ℕ
letter_d = 68

abbrev pub letter_e : ℕ
letter_e = 69

abbrev pub letter_g : ℕ
letter_g = 71

abbrev pub letter_h : ℕ
letter_h = 72

abbrev pub letter_l : ℕ
letter_l = 76

abbrev pub letter_n : ℕ
letter_n = 78

abbrev pub letter_p : ℕ
letter_p = 80

-- ---- an edition: the second letter of its header's mark, and how many bytes hold a name of a length

pub record Edition : Type 0 where
  pub letter : ℕ
  pub held : ℕ → ℕ

-- "name 8": eight bytes, whatever the length
abbrev pub first : Edition
first = record { letter = letter_d; held = λ len. name_bytes }

-- ---- the kinds of record: mark and fields, in their order

-- "name length 1, name 8"
unfoldable pub name_form : Edition → Codec Name
name_form v =
    via (λ (f : ℕ × List ℕ). record { len = f.0; bytes = pad name_bytes 0 f.1 })
    (λ s. (s.len, take (v.held s.len) s.bytes))
    (λ s. same_bytes s.bytes (pad name_bytes 0 (take (v.held s.len) s.bytes)))
    (then byte (λ len. run (v.held len)))

abbrev pub HeadFields : Type 0
HeadFields = ℕ × (ℕ × ℕ)

-- "partition 1, count of partitions 1, last number 4"
unfoldable pub hd : Edition → Row Head
hd v =
    record {
      first = letter_h;
      second = v.letter;
      form =
          via (λ (f : HeadFields). record { partition = f.0; count = f.1.0; last = f.1.1 }) (λ h. (h.partition, (h.count, h.last))) always
          (both byte (both byte long));
    }

-- three bytes, a name and a number, in which every record between header and close ends
abbrev pub ItemFields : Type 0
ItemFields = ℕ × (ℕ × (ℕ × (Name × ℕ)))

unfoldable pub item_form : Edition → Codec ItemFields
item_form v = both byte (both byte (both byte (both (name_form v) long)))

-- "directory 1, object partition 1, object 1, name length 1, name 8, number 4"
unfoldable pub en : Edition → Row Entry
en v =
    record {
      first = letter_e;
      second = letter_n;
      form =
          via
          (λ (f : ItemFields). record { directory = f.0; partition = f.1.0; object = f.1.1.0; name = f.1.1.1.0; number = f.1.1.1.1 })
          (λ e. (e.directory, (e.partition, (e.object, (e.name, e.number)))))
          always
          (item_form v);
    }

-- "object 1, parent 1, directory 1, name length 1, name 8, number 4"
unfoldable pub bp : Edition → Row Backpointer
bp v =
    record {
      first = letter_b;
      second = letter_p;
      form =
          via
          (λ (f : ItemFields). record { object = f.0; parent = f.1.0; directory = f.1.1.0; name = f.1.1.1.0; number = f.1.1.1.1 })
          (λ b. (b.object, (b.parent, (b.directory, (b.name, b.number)))))
          always
          (item_form v);
    }

abbrev pub is_kind : ℕ → Bool
is_kind k = eqb k (kind_number Link) || (eqb k (kind_number Create) || eqb k (kind_number Unlink))

abbrev pub kind_of : ℕ → Kind
kind_of k = pick (eqb k (kind_number Link)) Link (pick (eqb k (kind_number Create)) Create Unlink)

-- "kind 1 (link 1, create 2, unlink 3), directory 1, object partition 1, object 1, name length 1, name 8, number 4". Stages are
-- not stable: a record that is read is ready.
unfoldable pub lg : Edition → Row Record
lg v =
    record {
      first = letter_l;
      second = letter_g;
      form =
          via
          (λ (f : ℕ × ItemFields).
          record { kind = kind_of f.0; directory = f.1.0; name = f.1.1.1.1.0; partition = f.1.1.0; object = f.1.1.1.0; number = f.1.1.1.1.1; stage = Ready })
          (λ r. (kind_number r.kind, (r.directory, (r.partition, (r.object, (r.name, r.number))))))
          (λ r. is_ready r.stage)
          (those (λ f. is_kind f.0) (both byte (item_form v)));
    }

-- "count of EN, BP and LG together 2"
unfoldable pub ed : Row ℕ
ed = record { first = letter_e; second = letter_d; form = word }

-- ---- the tests of a record's fields: directory, object and name in their ranges, and the number

unfoldable pub head_fits : Head → Bool
head_fits h = every (leb 1 h.count ∷ leb h.count max_partitions ∷ ltb h.partition h.count ∷ [])

-- "EN and LG numbers are 1 to the last"
unfoldable pub entry_fits : Head → Entry → Bool
entry_fits h e = entry_among h.count e && given h.last e.number

-- "BP numbers are not 0"
unfoldable pub backpointer_fits : Head → Backpointer → Bool
backpointer_fits h b = backpointer_among h.count b && leb 1 b.number

unfoldable pub record_fits : Head → Record → Bool
record_fits h r = record_among h.count r && given h.last r.number

-- ---- the table of kinds: a kind more is a row more

abbrev pub entry_section : Edition → Section Head
entry_section v = record { Item = Entry; row = en v; room = max_entries; test = λ h earlier. entry_fits h }

abbrev pub backpointer_section : Edition → Section Head
backpointer_section v = record { Item = Backpointer; row = bp v; room = max_backpointers; test = λ h earlier. backpointer_fits h }

abbrev pub record_section : Edition → Section Head
record_section v = record { Item = Record; row = lg v; room = max_records; test = λ h earlier. record_fits h }

abbrev pub sections : Edition → Table Head
sections v = entry_section v before backpointer_section v before record_section v before close

abbrev pub Items : Edition → Type 0
Items v = Contents (sections v)

-- ---- what a picture shows: "stable tables of one partition". Its tables are down, and their records ready.

pub record Picture : Type 0 where
  pub partition : ℕ
  pub count : ℕ
  pub tables : Partition

abbrev pub stable : Partition → Partition
stable x = record { up = false; last = x.last; entries = x.entries; backpointers = x.backpointers; records = map (in_stage Ready) x.records }

unfoldable pub picture_of : Model → ℕ → Picture
picture_of m p = record { partition = p; count = partition_count m; tables = stable (partition m p) }

abbrev pub head_of : Picture → Head
head_of x = record { partition = x.partition; count = x.count; last = x.tables.last }

abbrev pub items_of : (v : Edition) → Picture → Items v
items_of v x = (x.tables.entries, (x.tables.backpointers, (x.tables.records, tt)))

abbrev pub picture_from : (v : Edition) → Head → Items v → Picture
picture_from v h c =
    record {
      partition = h.partition;
      count = h.count;
      tables = record { up = false; last = h.last; entries = c.0; backpointers = c.1.0; records = c.1.1.0 };
    }

-- ---- written: header, tables, close

unfoldable pub put : (v : Edition) → Head → Items v → List ℕ
put v h c = put_row (hd v) h ++ (put_table (sections v) c ++ put_row ed (counted (sections v) c))

unfoldable pub write : Edition → Picture → List ℕ
write v x = put v (head_of x) (items_of v x)

-- ---- read: header, tables, close; "After ED: 20, 21"

unfoldable pub ended : ℕ → List ℕ → Read ℕ
ended n [] = more n []
ended n (b ∷ bs) = fail BytesAfterClose

unfoldable pub closing : ℕ → List ℕ → Read ℕ
closing n bs = next (one ed CountWrong (eqb n) bs) ended

unfoldable pub read_tables : Edition → Head → List ℕ → Read Picture
read_tables v h bs =
    next (read_table (sections v) h bs) (λ c r. next (closing (counted (sections v) c) r) (λ n q. more (picture_from v h c) q))

unfoldable pub read : Edition → List ℕ → Read Picture
read v bs = next (one (hd v) FieldOutOfRange head_fits bs) (λ h r. read_tables v h r)

-- "(8 bytes in all)"
abbrev pub head_size : ℕ
head_size = 8

-- "The largest is 2,620 bytes."
abbrev pub largest_picture : ℕ
largest_picture = 2620
