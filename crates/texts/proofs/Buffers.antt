-- Text in a buffer: what a byte, a number and a line of numbers leave there.
use mathlib.Core.Bool.{Bool, false, true}
use mathlib.Core.List.{List, [], ◌++◌, ◌∷◌, append_assoc}
use mathlib.Core.Path.{◌∙◌, ◌≡◌, ap, refl, sym}
use Prim.Native.Nat.{◌+◌, ◌-◌, ◌<◌, ◌^◌, ◌≤◌, ℕ}
use native.Mathlib.Numerals.{add-one}
use native.Mathlib.Omega.{arith}
use lib.Dec.{leb}
use lib.ListN.{drop, length, length-append, length-drop, set, take, take-append-drop}
use lib.Seq.{drop_at, drop-drop, length-take-le, set_split, take_at}
use borrow.Author.Tests.{le-leb, leb-true, lt-leb}
use mir.Syntax.{w64}
use mir.Val.{Fits}
use Rattle.lists.proofs.Tests.{bool_same}
use Rattle.rehearsal.specs.Line.{space}
use Rattle.rehearsal.specs.Text.{Adds, Puts, decimal_of, has_room, written}

-- ---- `has_room`
module _ (len at size : ℕ) where
  pub room-before : len < at → false ≡ leb (at + size) len
  room-before h = sym (lt-leb (at + size) len (omega arith))

  pub room-behind : at ≤ len → leb size (len - at) ≡ leb (at + size) len
  room-behind h =
      bool_same (leb size (len - at)) (leb (at + size) len)
      (λ t. let l : size ≤ len - at = leb-true _ _ t in le-leb (at + size) len (omega arith))
      (λ t. let l : at + size ≤ len = leb-true _ _ t in le-leb size (len - at) (omega arith))

pub ruleset rooms = (room-before, room-behind)

-- ---- text behind text
module _ (out : List ℕ) (at : ℕ) (t : List ℕ) (h : at + length t ≤ length out) where
  front : length (take at out ++ t) ≡ at + length t
  front = length-append (take at out) t ∙ ap (λ (k : ℕ). k + length t) (length-take-le at out (omega arith))

  split : written out at t ≡ (take at out ++ t) ++ drop (at + length t) out
  unfolding written
  split = sym (append_assoc (take at out) t (drop (at + length t) out))

  pub written-length : length (written out at t) ≡ length out
  written-length =
      ap length split ∙ length-append (take at out ++ t) (drop (at + length t) out) ∙ rw (front, length-drop (at + length t) out) (omega arith)

  written_is : (o : List ℕ) (p : ℕ) (u : List ℕ) → written o p u ≡ take p o ++ (u ++ drop (p + length u) o)
  unfolding written
  written_is o p u = refl

  written_on : (u : List ℕ) → written (written out at t) (at + length t) u ≡ written out at (t ++ u)
  written_on u =
      let p = at + length t in
      let a : take p (written out at t) ≡ take at out ++ t = rw split (take_at (take at out ++ t) (drop p out) p front) in
      let d : drop p (written out at t) ≡ drop p out = rw split (drop_at (take at out ++ t) (drop p out) p front) in
      let b : drop (p + length u) (written out at t) ≡ drop (p + length u) out =
      sym (drop-drop (length u) p (written out at t)) ∙ ap (drop (length u)) d ∙ drop-drop (length u) p out
      in
      let e : at + length (t ++ u) ≡ p + length u = ap (λ (k : ℕ). at + k) (length-append t u) ∙ omega arith in
      let r = drop (p + length u) out in
      let l : written (written out at t) p u ≡ take at out ++ (t ++ (u ++ r)) =
      written_is (written out at t) p u ∙ rw (a, b) (append_assoc (take at out) t (u ++ r))
      in
      let m : written out at (t ++ u) ≡ take at out ++ (t ++ (u ++ r)) = written_is out at (t ++ u) ∙ rw (e, append_assoc t u r) in
      l ∙ sym m

-- ---- texts that were put one behind the other
module _ (t out : List ℕ) (at : ℕ) (a : List ℕ) (p : ℕ) where
  pub adds-length : at + length t ≤ length out → Adds t out at a p → length a ≡ length out
  adds-length h r = ap length r.bytes ∙ written-length out at t h

  pub adds_on : (u b : List ℕ) (q : ℕ) → at + length t ≤ length out → Adds t out at a p → Adds u a p b q → Adds (t ++ u) out at b q
  adds_on u b q h r s =
      record {
        bytes = s.bytes ∙ rw (r.bytes, r.place) (written_on out at t h u);
        place = let l = length-append t u in omega (arith, r.place, s.place);
      }

  pub puts-adds : at + length t ≤ length out → Puts t out at a p → Adds t out at a p
  puts-adds h r = let e : has_room out at t ≡ true = le-leb _ _ h in record { bytes = r.bytes ∙ rw e; place = r.place ∙ rw e }

  pub adds-puts : at + length t ≤ length out → Adds t out at a p → Puts t out at a p
  adds-puts h r = let e : has_room out at t ≡ true = le-leb _ _ h in record { bytes = r.bytes ∙ rw e; place = r.place ∙ rw e }

pub adds-nothing : (out : List ℕ) (at : ℕ) → Adds [] out at out at
unfolding written
adds-nothing out at = let e : at + 0 ≡ at = omega arith in record { bytes = sym (rw e (take-append-drop at out)); place = sym e }

-- ---- `put_byte`
pub byte_put : (out : List ℕ) (at b : ℕ) → at < length out → Adds (b ∷ []) out at (set out at b) (at + 1)
unfolding written
byte_put out at b h = record { bytes = rw add-one (set_split out at b h); place = refl }

-- ---- `put_number` and `put_line`: where the room is too short, and where not
module _ (t out : List ℕ) (at size : ℕ) (e : size ≡ length t) (b : Bool) (f : b ≡ leb (at + size) (length out)) where
  pub no_room : b ≡ false → Puts t out at out at
  no_room z = let n : has_room out at t ≡ false = rw e at (sym f ∙ z) in record { bytes = sym (rw n); place = sym (rw n) }

  module _ (z : b ≡ true) where
    pub some-room : at + size ≤ length out
    some-room = leb-true _ _ (sym f ∙ z)

    pub text-room : at + length t ≤ length out
    text-room = rw e at some-room

    pub room_fits : length out < 2 ^ 64 → Fits w64 (at + size)
    room_fits g = let h = some-room in record { fits = omega arith }

    pub room-least : length t ≤ at + size
    room-least = omega arith

    pub text-put : (a : List ℕ) → a ≡ written out (at + size - length t) t → Puts t out at a (at + size)
    text-put a w =
        let p : at + size - length t ≡ at = omega arith in
        adds-puts t out at a (at + size) text-room (record { bytes = w ∙ rw p; place = ap (λ (k : ℕ). at + k) e })

pub ruleset putting = (no_room, some-room, room_fits, room-least, text-put)

-- ---- `put_next`
module _ (n : ℕ) (out : List ℕ) (at : ℕ) (h : at + length (space ∷ decimal_of n) ≤ length out) where
  pub next-room : at < length out
  next-room = omega arith

  pub next-put : (a : List ℕ) (p : ℕ) → Adds (space ∷ []) out at a p → (m : ℕ) → m ≡ n → (b : List ℕ) (q : ℕ) → Puts (decimal_of m) a p b q → Adds (space ∷ decimal_of n) out at b q
  next-put a p r m e b q s =
      let l : length a ≡ length out = adds-length (space ∷ []) out at a p (omega arith) r in
      adds_on (space ∷ []) out at a p (decimal_of n) b q (omega arith) r (puts-adds (decimal_of n) a p b q (omega (arith, r.place)) (rw e at s))

pub ruleset nexts = (next-room, next-put)
