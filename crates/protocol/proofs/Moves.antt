-- A number moves to another way: what an accepted advance or delivery does to the tables, as they are whole.
use mathlib.Core.Bool.{true}
use mathlib.Core.List.{List, Memᴰ}
use mathlib.Core.Path.{◌≡◌}
use Prim.Native.Nat.{◌<◌, ◌≤◌, ℕ}
use lib.ListN.{length}
use Rattle.protocol.specs.Elements.{Backpointer, Entry}
use Rattle.protocol.specs.Tables.{Model, partition}
use Rattle.protocol.proofs.Content.{Content, Fine, fine-else, letters}
use Rattle.protocol.proofs.Look.{Shape}
use Rattle.protocol.proofs.Numbers.{Else, View}
use Rattle.protocol.proofs.Whole.{Moved, Sound, Way, Whole, load, mail_of, of_backpointer, of_entry, recs_of, sound-else, weigh}

-- what a number has, but for its way
module _ (m : Model) (p n : ℕ) (c : Content) (s : Shape m) (h : (partition m p).up ≡ true) (B : ℕ → List Backpointer)
    (bf : (q : ℕ) (b : Backpointer) → Memᴰ b (B q) → Fine m (of_backpointer q b)) where
  -- to another way
  pub move : {m' : Model} {k : ℕ} (E : List Entry) (w : Way) → Else m m' p n → View m' p n E (recs_of c n w) B (letters c n p (mail_of w)) → Sound m c w
      → length E ≤ 1 → ((e : Entry) → Memᴰ e E → Fine m (of_entry e)) → weigh E w < k → Moved m m' p n k
  move {m'} E w o v so si ef l =
      record {
        others = o;
        to = record {
          what = c;
          way = w;
          entries = E;
          backpointers = B;
          has = v;
          sound = sound-else m m' c w o.count so;
          single = si;
          entries_fine = λ e i. fine-else o.count (ef e i);
          backpointers_fine = λ q b i. fine-else o.count (bf q b i);
        };
        less = l;
      }

-- a settling step moves the number of one record
pub record Moves (m m' : Model) (i : Whole m) : Type 0 where
  pub giver : ℕ
  pub number : ℕ
  pub moved : Moved m m' giver number (load (i.local giver number))
