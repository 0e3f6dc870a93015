-- The test of a free record and of a free message, part by part.
use mathlib.Core.Bool.{Bool, ◌&&◌, false, true}
use mathlib.Core.Path.{◌≡◌, refl}
use lib.Dec.{eqb}
use Rattle.names.specs.Names.{same_name, zero_name}
use Rattle.protocol.specs.Elements.{is_ready, is_request}
use Rattle.protocol.specs.declared.Message.{Message}
use Rattle.protocol.specs.declared.Record.{Record}
use Rattle.tables.specs.Slots.{free_message, free_record, is_link}

regrouped : (a b c d e f : Bool) → ((a && (b && (c && (d && e)))) && f) ≡ (a && (b && (c && (d && (e && f)))))
regrouped false b c d e f = refl
regrouped true false c d e f = refl
regrouped true true false d e f = refl
regrouped true true true false e f = refl
regrouped true true true true e f = refl

module _ (n k s : Bool) where
  pub record-free : (r : Record) → n ≡ (eqb r.number 0 && (eqb r.directory 0 && (eqb r.partition 0 && (eqb r.object 0 && same_name r.name zero_name))))
      → k ≡ is_link r.kind → s ≡ is_ready r.stage → (n && (k && s)) ≡ free_record r
  unfolding free_record
  record-free r e f g =
      rw (e, f, g) (regrouped (eqb r.number 0) (eqb r.directory 0) (eqb r.partition 0) (eqb r.object 0) (same_name r.name zero_name) (is_link r.kind && is_ready r.stage))

  pub message-free : (x : Message) → n ≡ (eqb x.number 0 && (eqb x.directory 0 && (eqb x.partition 0 && (eqb x.object 0 && same_name x.name zero_name))))
      → k ≡ is_link x.kind → s ≡ is_request x.body → (n && (k && s)) ≡ free_message x
  unfolding free_message
  message-free x e f g =
      rw (e, f, g) (regrouped (eqb x.number 0) (eqb x.directory 0) (eqb x.partition 0) (eqb x.object 0) (same_name x.name zero_name) (is_link x.kind && is_request x.body))
