-- The loop over a block: at each place, what is left to be answered, and what stands in the room.
use Rattle.std.proofs.Common.{◌≡◌, ℕ, ◌+◌, ◌*◌, ◌<◌, ◌≤◌, true, false, eqb, List, [], ◌∷◌, ◌++◌, length, get_or, drop, sym, refl, ap, ◌∙◌, append_assoc, append-nil, add-one, arith, drop_of_length-le, drop-cons, eq-eqb, ne_eqb}
use Rattle.rehearsal.specs.Line.{command_of}
use Rattle.sessions.specs.Session.{responded}
use Rattle.std.specs.Prelude.{Bool}
use Rattle.rehearsal.specs.Text.{Adds, line_end, line_text}
use Rattle.rehearsal.specs.Answers.{numbers_of}
use Rattle.sessions.specs.declared.Response.{Response}
use Rattle.rehearsal.specs.declared.Command.{Command}
use Rattle.rehearsal.specs.Answers.{Numbers}
use Rattle.sessions.specs.declared.Session.{Session}
use Rattle.deeds.specs.Deeds.{Does, left_by, numbers_said}
use Rattle.deeds.specs.declared.Deed.{Deed}
use Rattle.tables.specs.declared.Tables.{Tables}
use Rattle.texts.proofs.Buffers.{adds-length, adds-nothing, adds_on}
use Rattle.feeding.specs.Feed.{Midway, Service, answer, answered, begun_with, next_line, fed, fed_byte, longest_answer, midway, said, said_byte}
use Rattle.feeding.specs.Sessions.{sessions}

-- ---- a block from a place on
module _ {S : Type 0} (v : Service S) (block : List ℕ) (i : ℕ) where
  module _ (h : i < length block) (x : Midway S) where
    fed-on : fed v x (drop i block) ≡ fed v (fed_byte v x (get_or block i 0)) (drop (i + 1) block)
    unfolding fed
    fed-on = rw (add-one i, drop-cons block i 0 h)

    said-on : said v x (drop i block) ≡ said_byte v x (get_or block i 0) ++ said v (fed_byte v x (get_or block i 0)) (drop (i + 1) block)
    unfolding said
    said-on = rw (add-one i, drop-cons block i 0 h)

  module _ (h : length block ≤ i) (x : Midway S) where
    fed-end : fed v x (drop i block) ≡ x
    unfolding fed
    fed-end = rw (drop_of_length-le block h)

    said-end : said v x (drop i block) ≡ []
    unfolding said
    said-end = rw (drop_of_length-le block h)

-- ---- `feed`: the first i bytes are answered, and x is what they leave
module _ (x₀ : Midway Session) (block before : List ℕ) where
  pub record Feeding (x : Midway Session) (out : List ℕ) (place i : ℕ) : Type 0 where
    pub room : length block * longest_answer ≤ length before
    pub short : place ≤ i * longest_answer
    pub text : List ℕ
    pub added : Adds text before 0 out place
    pub kept : fed sessions x₀ block ≡ fed sessions x (drop i block)
    pub rest : said sessions x₀ block ≡ text ++ said sessions x (drop i block)

  module _ (x : Midway Session) (out : List ℕ) (place i : ℕ) (f : Feeding x out place i) where
    module _ (inside : i ≤ length block) where
      fits : 0 + length f.text ≤ length before
      fits = omega (arith, f.room, f.short, f.added.place)

      pub feed-same : length out ≡ length before
      feed-same = adds-length f.text before 0 out place fits f.added

    module _ (h : i < length block) where
      pub feed-room : place + longest_answer ≤ length out
      feed-room = let e = feed-same (omega arith) in omega (arith, f.room, f.short)

      -- a byte that is answered by t, and leaves y
      step : (t : List ℕ) → t ≡ said_byte sessions x (get_or block i 0) → (y : Midway Session) → y ≡ fed_byte sessions x (get_or block i 0) → (a : List ℕ) (p : ℕ)
          → Adds t out place a p → p ≤ place + longest_answer → Feeding y a p (i + 1)
      step t e y g a p r q =
          record {
            room = f.room;
            short = omega (arith, f.short);
            text = f.text ++ t;
            added = adds_on f.text before 0 out place t a p (fits (omega arith)) f.added r;
            kept = f.kept ∙ rw g (fed-on sessions block i h x);
            rest =
                f.rest
                ∙ ap (λ (k : List ℕ). f.text ++ k) (rw (e, g) (said-on sessions block i h x))
                ∙ sym (append_assoc f.text t (said sessions y (drop (i + 1) block)));
          }

      pub feed-line : get_or block i 0 ≡ line_end → (y : Midway Session) → y ≡ answered sessions x → (a : List ℕ) (p : ℕ)
          → Adds (answer sessions x) out place a p → p ≤ place + longest_answer → Feeding y a p (i + 1)
      feed-line b y g a p r q =
          let e : eqb (get_or block i 0) line_end ≡ true = eq-eqb _ _ b in
          step (answer sessions x) (rw e) y (g ∙ rw e) a p r q

      pub feed-byte : (get_or block i 0 ≡ line_end → ⊥) → (l : List ℕ) → l ≡ begun_with x.line (get_or block i 0) → Feeding (midway l x.lines x.service) out place (i + 1)
      feed-byte b l g =
          let e : eqb (get_or block i 0) line_end ≡ false = ne_eqb _ _ b in
          step [] (rw e) (midway l x.lines x.service) (rw (e, g)) out place (adds-nothing out place) (omega arith)

    module _ (h : length block ≤ i) where
      pub feed-kept : x ≡ fed sessions x₀ block
      feed-kept = sym (f.kept ∙ fed-end sessions block i h x)

      pub feed-said : Adds (said sessions x₀ block) before 0 out place
      feed-said =
          let e : said sessions x₀ block ≡ f.text = f.rest ∙ rw (said-end sessions block i h x) (append-nil f.text) in
          rw e f.added

pub feed-start : (x : Midway Session) (block out : List ℕ) → length block * longest_answer ≤ length out → Feeding x block out x out 0 0
feed-start x block out h =
    record { room = h; short = omega arith; text = []; added = adds-nothing out 0; kept = refl; rest = refl }

pub ruleset feeding = (feed-start, feed-same, feed-room, feed-line, feed-byte, feed-kept, feed-said)

-- ---- a line that is answered: c is its command, and r what the session answers
module _ (x₀ : Midway Session) (block before : List ℕ) (x : Midway Session) (out : List ℕ) (place i : ℕ) (f : Feeding x₀ block before x out place i)
    (h : i < length block) (b : get_or block i 0 ≡ line_end) (n : ℕ) (en : n ≡ next_line x.lines) (c : Command) (ec : c ≡ command_of x.line)
    (l : List ℕ) (el : l ≡ []) (a : List ℕ) (p : ℕ) where
  pub feed-response : (r : Response) → r ≡ responded x.service c → Adds (line_text (n ∷ numbers_of r.numbers)) out place a p → p ≤ place + longest_answer
      → Feeding x₀ block before (midway l n r.session) a p (i + 1)
  feed-response r er w q = feed-line x₀ block before x out place i f h b (midway l n r.session) (rw (en, el, er, ec)) a p (rw (en, er, ec) at w) q

  -- a deed d is carried out, and leaves the tables u
  pub feed-deed : (o : Bool) (t : Tables) → x.service ≡ record { «open» = o; tables = t } → (d : Deed)
      → (o ≡ true) × Does d t (responded (record { «open» = o; tables = t }) c) → (ns : Numbers) → ns ≡ numbers_said d → (u : Tables) → u ≡ left_by d t
      → Adds (line_text (n ∷ numbers_of ns)) out place a p → p ≤ place + longest_answer
      → Feeding x₀ block before (midway l n (record { «open» = o; tables = u })) a p (i + 1)
  feed-deed o t es d g ns e u k w q =
      let r : Response = record { numbers = ns; session = record { «open» = o; tables = u } } in
      feed-response r
      ((λ j. record { numbers = e j; session = record { «open» = g.0 j; tables = k j } }) ∙ g.1.gives ∙ ap (λ (y : Session). responded y c) (sym es)) w q
