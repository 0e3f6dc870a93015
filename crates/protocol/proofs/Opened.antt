-- A record is opened: what an accepted ask shows, where G is to be shown of the tables after it.
use mathlib.Core.Bool.{true}
use mathlib.Core.List.{List, [], ◌++◌, ◌∷◌}
use mathlib.Core.Path.{◌≡◌, refl}
use Prim.Native.Nat.{◌<◌, suc, ℕ}
use lib.ListN.{length}
use borrow.Author.Tests.{ltb-true}
use Rattle.lists.specs.Lists.{keep}
use Rattle.protocol.specs.Ask.{ask, ask_tables, asked, unlink, unlink_found, unlink_of}
use Rattle.protocol.specs.Elements.{Entry, Kind, Name, Ready, Record}
use Rattle.protocol.specs.Tables.{Model, Partition, give_number, is_partition, open_record, partition, record_bears, set_partition, stands_under, with_records}
use Rattle.lists.proofs.Keep.{is_none-true}
use Rattle.lists.proofs.Tests.{and_right}
use Rattle.protocol.proofs.Changes.{check-keeps, grown-else, grown-view, plain-view, raised, raised-claimed, raised-plain}
use Rattle.protocol.proofs.Content.{Blank, Content, Fine, fine-else, record_at}
use Rattle.protocol.proofs.Look.{Shape, part_same, up_in}
use Rattle.protocol.proofs.Neat.{Neat, neat-more, neat-unlink}
use Rattle.protocol.proofs.Numbers.{Else, View, count-part, shape-part}
use Rattle.protocol.proofs.Tells.{range-fine}

-- a link or create of the content c by p: the number is given, then the record opened
pub record Opens (k : Kind) (m : Model) (p : ℕ) (c : Content) : Type 0 where
  pub inside : p < length m.partitions
  pub last : (partition m p).last < 4294967295
  pub fine : Fine (give_number m p) c
  pub others : Shape m
      → Else (give_number m p) (open_record (give_number m p) p (record_at c (suc (partition m p).last) k Ready)) p (suc (partition m p).last)
  pub has : Shape m → Blank m p (suc (partition m p).last)
      → View (open_record (give_number m p) p (record_at c (suc (partition m p).last) k Ready)) p (suc (partition m p).last) []
      (record_at c (suc (partition m p).last) k Ready ∷ []) (λ q. []) (λ a b. [])

pub ask-cases : (k : Kind) (m : Model) (p d : ℕ) (t : Name) (q o : ℕ) (G : Model → Type 0) → G m
    → (Opens k m p (record { directory = d; name = t; partition = q; object = o })
    → G (open_record (give_number m p) p (asked k d t q o (suc (partition m p).last)))) → G (ask k m p d t q o).model
unfolding ask ask_tables give_number
ask-cases k m p d t q o G g f =
    check-keeps G _ _ m _ g λ e₁. check-keeps G _ _ m _ g λ e₂. check-keeps G _ _ m _ g λ e₃. check-keeps G _ _ m _ g λ e₄.
    check-keeps G _ _ m _ g λ e₅. check-keeps G _ _ m _ g λ e₆. check-keeps G _ _ m _ g λ e₇.
    let h : p < length m.partitions = up_in m p e₃ in
    let c : Content = record { directory = d; name = t; partition = q; object = o } in
    let x : Partition = raised (partition m p) in
    let m₁ : Model = set_partition m p x in
    let r : Record = record_at c (suc (partition m p).last) k Ready in
    let h₁ : (partition m₁ p).up ≡ true = rw (part_same m p x h) e₃ in
    let w : Neat (partition m₁ p) → Neat (with_records (partition m₁ p) ((partition m₁ p).records ++ r ∷ [])) =
    rw (part_same m p x h) (neat-more x r (ltb-true _ _ e₆) (ltb-true _ _ (rw (raised-claimed (partition m p)) e₇))) in
    f
    (record {
      inside = h;
      last = ltb-true _ _ e₅;
      fine = fine-else (count-part m p x) (range-fine m c (and_right (is_partition m p) _ e₁) e₂);
      others = λ s. grown-else m₁ p (shape-part m p x s) h₁ r w;
      has = λ s b. grown-view m₁ p (shape-part m p x s) h₁ r (plain-view m p x (raised-plain (partition m p)) h b);
    })

-- an unlink of the entry e, one of those under the name
pub record Unlinks (m : Model) (p d : ℕ) (t : Name) (e : Entry) (es : List Entry) : Type 0 where
  pub up : (partition m p).up ≡ true
  pub found : keep (stands_under d t) (partition m p).entries ≡ e ∷ es
  pub unopened : keep (record_bears e.number) (partition m p).records ≡ []
  pub others : Shape m → Else m (open_record m p (unlink_of e)) p e.number

pub unlink-cases : (m : Model) (p d : ℕ) (t : Name) (G : Model → Type 0) → G m
    → ((e : Entry) (es : List Entry) → Unlinks m p d t e es → G (open_record m p (unlink_of e))) → G (unlink m p d t).model
unfolding unlink
unlink-cases m p d t G g f =
    check-keeps G _ _ m _ g λ e₁. check-keeps G _ _ m _ g λ e₂. check-keeps G _ _ m _ g λ e₃. go e₃
    (keep (stands_under d t) (partition m p).entries) refl
  where
    go : (partition m p).up ≡ true → (es : List Entry) → keep (stands_under d t) (partition m p).entries ≡ es → G (unlink_found m p es).model
    go h [] q = g
    go h (e ∷ es) q =
        check-keeps G _ _ m _ g λ e₄. check-keeps G _ _ m _ g λ e₅.
        f e es
        (record {
          up = h;
          found = q;
          unopened = is_none-true _ e₄;
          others = λ s. grown-else m p s h (unlink_of e) (neat-unlink (partition m p) (unlink_of e) refl (ltb-true _ _ e₅));
        })
