-- What each kind of record has in its item, and an entry and a back-pointer of one: the fields in the order of `Picture`'s forms.
use Rattle.protocol.specs.declared.Backpointer.{Backpointer}
use Rattle.protocol.specs.declared.Entry.{Entry}
use Rattle.protocol.specs.declared.Record.{Record}
use Rattle.picture.specs.declared.Item.{Item}

abbrev pub entry_from : Item → Entry
entry_from i = record { directory = i.a; partition = i.b; object = i.c; name = i.name; number = i.number }

abbrev pub entry_item : Entry → Item
entry_item e = record { a = e.directory; b = e.partition; c = e.object; name = e.name; number = e.number }

abbrev pub backpointer_from : Item → Backpointer
backpointer_from i = record { object = i.a; parent = i.b; directory = i.c; name = i.name; number = i.number }

abbrev pub backpointer_item : Backpointer → Item
backpointer_item b = record { a = b.object; b = b.parent; c = b.directory; name = b.name; number = b.number }

abbrev pub record_item : Record → Item
record_item r = record { a = r.directory; b = r.partition; c = r.object; name = r.name; number = r.number }
