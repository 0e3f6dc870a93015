-- However an input is divided into blocks, the answers to them are the answers to its lines.
use mathlib.Core.Bool.{false, true}
use mathlib.Core.List.{List, [], ◌++◌, ◌∷◌, append_assoc, append-nil}
use mathlib.Core.Path.{◌∙◌, ◌≡◌, ap, ap₂, refl, subst, sym}
use Prim.Native.Nat.{◌+◌, ◌<◌, ◌^◌, ◌≤◌, suc, ℕ}
use native.Mathlib.Omega.{arith}
use lib.Dec.{eqb, leb}
use lib.ListN.{length, length-append, take}
use lib.Seq.{length-take-le, take_all, take-append-le, take-take}
use borrow.Author.Tests.{leb-false, leb-true, lt-leb}
use Rattle.lists.specs.Lists.{is_some, one}
use Rattle.lists.proofs.Tests.{by_test}
use Rattle.rehearsal.specs.Line.{behind, command_of, line_bytes, up_to}
use Rattle.rehearsal.specs.Rehearsal.{State, answered_from, closed, lines_from, rehearsal, respond}
use Rattle.sessions.specs.Session.{Agrees, Orderly, closed_session, responded, state_of}
use Rattle.rehearsal.specs.Text.{line_end, line_text}
use Rattle.rehearsal.specs.declared.Command.{Command}
use Rattle.sessions.specs.declared.Session.{Session}
use Rattle.sessions.proofs.Sessions.{first-closed, first-orderly, session-agrees}
use Rattle.feeding.specs.Sessions.{at_start, sessions}
use Rattle.feeding.specs.Feed.{Midway, Service, answer, answered, begun_with, fed, fed_byte, joined, line_room, midway, next_line, said, said_all, said_byte, said_last, start_with}

-- ---- blocks, one after the other
module _ {S : Type 0} (v : Service S) where
  -- all that is answered from here to the end of the input
  abbrev whole : Midway S → List ℕ → List ℕ
  whole x s = said v x s ++ said_last v (fed v x s)

  whole-first : (b : ℕ) (s : List ℕ) (x : Midway S) → whole x (b ∷ s) ≡ said_byte v x b ++ whole (fed_byte v x b) s
  unfolding said fed
  whole-first b s x = append_assoc (said_byte v x b) (said v (fed_byte v x b) s) (said_last v (fed v (fed_byte v x b) s))

  whole-on : (s t : List ℕ) (x : Midway S) → whole x (s ++ t) ≡ said v x s ++ whole (fed v x s) t
  unfolding said fed
  whole-on [] t x = refl
  whole-on (b ∷ s) t x =
      whole-first b (s ++ t) x
      ∙ ap (λ (k : List ℕ). said_byte v x b ++ k) (whole-on s t (fed_byte v x b))
      ∙ sym (append_assoc (said_byte v x b) (said v (fed_byte v x b) s) (whole (fed v (fed_byte v x b) s) t))

  blocks-whole : (ss : List (List ℕ)) (x : Midway S) → said_all v x ss ≡ whole x (joined ss)
  unfolding said_all joined said fed
  blocks-whole [] x = refl
  blocks-whole (s ∷ ss) x = ap (λ (k : List ℕ). said v x s ++ k) (blocks-whole ss (fed v x s)) ∙ sym (whole-on s (joined ss) x)

-- ---- of a line no more is kept than says that it is too long
abbrev kept : List ℕ → List ℕ
kept l = take line_room l

kept-asks : (l : List ℕ) → command_of (kept l) ≡ command_of l
unfolding command_of
kept-asks l =
    by_test (leb (length l) line_bytes)
    (λ t. let h : length l ≤ line_bytes = leb-true _ _ t in rw (take_all line_room l (omega arith)))
    (λ t.
    let h : line_bytes < length l = leb-false _ _ t in
    let n : length (kept l) ≡ line_room = length-take-le line_room l (omega arith) in
    let k : leb (length (kept l)) line_bytes ≡ false = lt-leb (length (kept l)) line_bytes (omega arith) in
    rw (t, k))

kept_more : (l : List ℕ) (b : ℕ) → begun_with (kept l) b ≡ kept (l ++ b ∷ [])
unfolding begun_with
kept_more l b =
    by_test (leb (length l) line_room)
    (λ t. rw (take_all line_room l (leb-true _ _ t)))
    (λ t.
    let h : line_room < length l = leb-false _ _ t in
    let n : length (kept l) ≡ line_room = length-take-le line_room l (omega arith) in
    take-append-le line_room (kept l) (b ∷ []) (omega arith)
    ∙ take-take line_room line_room l (omega arith)
    ∙ sym (take-append-le line_room l (b ∷ []) (omega arith)))

-- ---- the lines of an input, from a byte on
module _ (l : List ℕ) (b : ℕ) (s : List ℕ) where
  lines_end : eqb b line_end ≡ true → lines_from (l ++ up_to line_end (b ∷ s)) (behind line_end (b ∷ s)) ≡ l ∷ lines_from (up_to line_end s) (behind line_end s)
  unfolding lines_from up_to behind
  lines_end t = rw (t, append-nil l)

  lines_more : eqb b line_end ≡ false → lines_from (l ++ up_to line_end (b ∷ s)) (behind line_end (b ∷ s)) ≡ lines_from ((l ++ b ∷ []) ++ up_to line_end s) (behind line_end s)
  unfolding up_to behind
  lines_more t = rw (t, append_assoc l (b ∷ []) (up_to line_end s))

next-number : (n : ℕ) → n + 1 < 2 ^ 64 → next_line n ≡ suc n
next-number n h = omega arith

-- ---- a service that answers as a state does, and goes on doing so
module _ {S : Type 0} (v : Service S) (R : S → State → Type 0) (same : (a : S) (x : State) (c : Command) → R a x → v.numbers a c ≡ (respond x c).numbers) (stay : (a : S) (x : State) (c : Command) → R a x → R (v.after a c) (respond x c).state) where
  abbrev at : List ℕ → ℕ → S → Midway S
  at l n a = midway (kept l) n a

  module _ (l : List ℕ) (n : ℕ) (a : S) where
    answer-is : (x : State) → R a x → n + 1 < 2 ^ 64 → answer v (at l n a) ≡ line_text (suc n ∷ (respond x (command_of l)).numbers)
    answer-is x r h = rw (kept-asks l, next-number n h, same a x (command_of l) r)

    answered-is : n + 1 < 2 ^ 64 → answered v (at l n a) ≡ at [] (suc n) (v.after a (command_of l))
    answered-is h = rw (kept-asks l, next-number n h)

    whole-line : (b : ℕ) (s : List ℕ) → eqb b line_end ≡ true → whole v (at l n a) (b ∷ s) ≡ answer v (at l n a) ++ whole v (answered v (at l n a)) s
    whole-line b s t =
        let e : said_byte v (at l n a) b ≡ answer v (at l n a) = rw t in
        let f : fed_byte v (at l n a) b ≡ answered v (at l n a) = rw t in
        whole-first v b s (at l n a) ∙ ap₂ ◌++◌ e (ap (λ (y : Midway S). whole v y s) f)

    whole-byte : (b : ℕ) (s : List ℕ) → eqb b line_end ≡ false → whole v (at l n a) (b ∷ s) ≡ whole v (at (l ++ b ∷ []) n a) s
    whole-byte b s t =
        let e : said_byte v (at l n a) b ≡ [] = rw t in
        let f : fed_byte v (at l n a) b ≡ at (l ++ b ∷ []) n a = rw (t, kept_more l b) in
        whole-first v b s (at l n a) ∙ ap₂ ◌++◌ e (ap (λ (y : Midway S). whole v y s) f)

  -- a last line that lacks its LF
  last_line : (l : List ℕ) (n : ℕ) (a : S) (x : State) → R a x → n + length l < 2 ^ 64 → said_last v (at l n a) ≡ answered_from (suc n) x (one (is_some l) l)
  unfolding said answered_from
  last_line [] n a x r h = refl
  last_line (b ∷ l) n a x r h = ap (λ (k : List ℕ). k ++ []) (answer-is (b ∷ l) n a x r (omega arith))

  lines : (s l : List ℕ) (n : ℕ) (a : S) (x : State) → R a x → n + (length l + length s) < 2 ^ 64 → whole v (at l n a) s ≡ answered_from (suc n) x (lines_from (l ++ up_to line_end s) (behind line_end s))
  unfolding said fed answered_from lines_from up_to behind
  lines [] l n a x r h = rw (append-nil l) (last_line l n a x r (omega arith))
  lines (b ∷ s) l n a x r h =
      by_test (eqb b line_end)
      (λ t.
      let m : n + 1 < 2 ^ 64 = omega arith in
      let c = command_of l in
      whole-line l n a b s t
      ∙ ap₂ ◌++◌ (answer-is l n a x r m) (ap (λ (y : Midway S). whole v y s) (answered-is l n a m) ∙ lines s [] (suc n) (v.after a c) (respond x c).state (stay a x c r) (omega arith))
      ∙ sym (ap (answered_from (suc n) x) (lines_end l b s t)))
      (λ t.
      let k = length-append l (b ∷ []) in
      whole-byte l n a b s t ∙ lines s (l ++ b ∷ []) n a x r (omega arith) ∙ sym (ap (answered_from (suc n) x) (lines_more l b s t)))

  pub rehearsed : (blocks : List (List ℕ)) (a : S) → R a closed → length (joined blocks) < 2 ^ 64 → said_all v (start_with a) blocks ≡ rehearsal (joined blocks)
  unfolding rehearsal
  rehearsed blocks a r h = blocks-whole v blocks (start_with a) ∙ lines (joined blocks) [] 0 a closed r (omega arith)

-- the program's sessions, in order, follow the states that they stand for
pub record Stands (s : Session) (x : State) : Type 0 where
  pub orderly : Orderly s
  pub state : state_of s ≡ x

module _ (s : Session) (x : State) (c : Command) (r : Stands s x) where
  agree : Agrees (responded s c) (respond x c)
  agree = subst (λ (y : State). Agrees (responded s c) (respond y c)) r.state (session-agrees s c r.orderly)

  stands_on : Stands (responded s c).session (respond x c).state
  stands_on = record { orderly = agree.next; state = agree.state }

pub any-blocks : (blocks : List (List ℕ)) → length (joined blocks) < 2 ^ 64 → said_all sessions at_start blocks ≡ rehearsal (joined blocks)
any-blocks blocks h =
    rehearsed sessions Stands (λ s x c r. (agree s x c r).numbers) stands_on blocks closed_session (record { orderly = first-orderly; state = first-closed }) h
