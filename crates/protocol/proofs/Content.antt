-- What a number's parts say in common, and the messages of one record.
use mathlib.Core.Bool.{Bool, ◌&&◌, and-false, false, not, true}
use mathlib.Core.List.{List, []}
use mathlib.Core.Path.{◌∙◌, ◌≡◌, ap, refl, sym}
use Prim.Native.Nat.{◌<◌, ℕ}
use lib.Dec.{eqb}
use lib.ListN.{length}
use Rattle.lists.specs.Lists.{keep, one}
use Rattle.names.specs.Names.{good_name}
use Rattle.protocol.specs.Bounds.{directories, max_partitions, objects}
use Rattle.protocol.specs.Elements.{Backpointer, Body, Entry, Kind, Message, Name, Record, Request, Stage, is_ready}
use Rattle.protocol.specs.Tables.{Model, partition, queue}
use Rattle.protocol.proofs.Numbers.{Else, View, here}

pub record Content : Type 0 where
  pub directory : ℕ
  pub name : Name
  pub partition : ℕ
  pub object : ℕ

module _ (c : Content) (n : ℕ) where
  abbrev pub entry_at : Entry
  entry_at = record { directory = c.directory; name = c.name; partition = c.partition; object = c.object; number = n }

  abbrev pub record_at : Kind → Stage → Record
  record_at k s = record { kind = k; directory = c.directory; name = c.name; partition = c.partition; object = c.object; number = n; stage = s }

  abbrev pub backpointer_at : ℕ → Backpointer
  backpointer_at p = record { object = c.object; parent = p; directory = c.directory; name = c.name; number = n }

  abbrev pub message_at : Kind → Body → Message
  message_at k t = record { body = t; kind = k; directory = c.directory; name = c.name; partition = c.partition; object = c.object; number = n }

pub data Mail : Type 0 where
  silent : Mail
  out : Kind → Mail
  home : Kind → Body → Mail

abbrev pub letters : Content → ℕ → ℕ → Mail → ℕ → ℕ → List Message
letters c n p silent a b = []
letters c n p (out k) a b = one (eqb a p && eqb b c.partition) (message_at c n k Request)
letters c n p (home k t) a b = one (eqb a c.partition && eqb b p) (message_at c n k t)

-- the content is in range
pub record Fine (m : Model) (c : Content) : Type 0 where
  pub partition : c.partition < length m.partitions
  pub directory : c.directory < directories
  pub object : c.object < objects
  pub name : good_name c.name ≡ true

pub fine-else : {m m' : Model} {c : Content} → length m'.partitions ≡ length m.partitions → Fine m c → Fine m' c
fine-else e f = record { partition = rw e f.partition; directory = f.directory; object = f.object; name = f.name }

abbrev pub Blank : Model → ℕ → ℕ → Type 0
Blank m p n = View m p n [] [] (λ q. []) (λ a b. [])

-- a down partition has no messages from or to it and all its records ready
abbrev pub unready : Record → Bool
unready r = not (is_ready r.stage)

pub record AtRest (m : Model) (p : ℕ) : Type 0 where
  pub ready : keep unready (partition m p).records ≡ []
  pub from : (q : ℕ) → q < max_partitions → queue m p q ≡ []
  pub to : (q : ℕ) → p < max_partitions → queue m q p ≡ []

abbrev pub DownsRest : Model → Type 0
DownsRest m = (p : ℕ) → (partition m p).up ≡ false → AtRest m p

pub else-view : {m m' : Model} {p n : ℕ} → Else m m' p n → {p' n' : ℕ} → here p n p' n' ≡ false
    → {E : List Entry} {R : List Record} {B : ℕ → List Backpointer} {M : ℕ → ℕ → List Message} → View m p' n' E R B M → View m' p' n' E R B M
else-view o {p'} {n'} t v =
    record {
      entries = o.entries p' n' t ∙ v.entries;
      records = o.records p' n' t ∙ v.records;
      backpointers = λ q. o.backpointers p' n' t q ∙ v.backpointers q;
      messages = λ a b h. o.messages p' n' t a b h ∙ v.messages a b h;
    }

pub else-downs : {m m' : Model} {p n : ℕ} → Else m m' p n → DownsRest m → DownsRest m'
else-downs {m} o d q e =
    let u : (partition m q).up ≡ false = sym (o.ups q) ∙ e in
    let x : AtRest m q = d q u in
    record {
      ready = ap (keep unready) (o.still q u) ∙ x.ready;
      from = λ r h. o.quiet q r h (rw u refl) ∙ x.from r h;
      to = λ r h. o.quiet r q h (rw u (and-false (partition m r).up)) ∙ x.to r h;
    }
