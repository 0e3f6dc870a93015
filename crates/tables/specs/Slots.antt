-- The elements that stand in free slots ("Slots past the count are zero"; the zero of an enum is its first case), the test of a
-- free slot, and what a read past the end of an array gives, where the name has no bytes at all.
use Rattle.std.specs.Prelude.{Bool, ◌&&◌, [], eqb}
use Rattle.names.specs.Names.{same_name, zero_name}
use Rattle.names.specs.declared.Name.{Name}
use Rattle.protocol.specs.Elements.{is_ready, is_request, kind_number}
use Rattle.protocol.specs.declared.Backpointer.{Backpointer}
use Rattle.protocol.specs.declared.Body.TheVariants.{Request}
use Rattle.protocol.specs.declared.Entry.{Entry}
use Rattle.protocol.specs.declared.Kind.{Kind}
use Rattle.protocol.specs.declared.Kind.TheVariants.{Link}
use Rattle.protocol.specs.declared.Message.{Message}
use Rattle.protocol.specs.declared.Record.{Record}
use Rattle.protocol.specs.declared.Stage.TheVariants.{Ready}

unfoldable pub zero_entry : Entry
zero_entry = record { directory = 0; name = zero_name; partition = 0; object = 0; number = 0 }

unfoldable pub zero_backpointer : Backpointer
zero_backpointer = record { object = 0; parent = 0; directory = 0; name = zero_name; number = 0 }

unfoldable pub zero_record : Record
zero_record = record { kind = Link; directory = 0; name = zero_name; partition = 0; object = 0; number = 0; stage = Ready }

unfoldable pub zero_message : Message
zero_message = record { body = Request; kind = Link; directory = 0; name = zero_name; partition = 0; object = 0; number = 0 }

unfoldable pub free_entry : Entry → Bool
free_entry e = eqb e.number 0 && (eqb e.directory 0 && (eqb e.partition 0 && (eqb e.object 0 && same_name e.name zero_name)))

unfoldable pub free_backpointer : Backpointer → Bool
free_backpointer b = eqb b.number 0 && (eqb b.directory 0 && (eqb b.parent 0 && (eqb b.object 0 && same_name b.name zero_name)))

abbrev pub is_link : Kind → Bool
is_link k = eqb (kind_number k) 1

unfoldable pub free_record : Record → Bool
free_record r =
    eqb r.number 0
    && (eqb r.directory 0
    && (eqb r.partition 0
    && (eqb r.object 0
    && (same_name r.name zero_name && (is_link r.kind && is_ready r.stage)))))

unfoldable pub free_message : Message → Bool
free_message x =
    eqb x.number 0
    && (eqb x.directory 0
    && (eqb x.partition 0
    && (eqb x.object 0
    && (same_name x.name zero_name && (is_link x.kind && is_request x.body)))))

abbrev pub no_name : Name
no_name = record { len = 0; bytes = [] }

abbrev pub no_entry : Entry
no_entry = record { directory = 0; name = no_name; partition = 0; object = 0; number = 0 }

abbrev pub no_backpointer : Backpointer
no_backpointer = record { object = 0; parent = 0; directory = 0; name = no_name; number = 0 }

abbrev pub no_record : Record
no_record = record { kind = Link; directory = 0; name = no_name; partition = 0; object = 0; number = 0; stage = Ready }

abbrev pub no_message : Message
no_message = record { body = Request; kind = Link; directory = 0; name = no_name; partition = 0; object = 0; number = 0 }
