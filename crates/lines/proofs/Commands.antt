-- Gathering a command's words: the loop over the words of a row, and what a whole line asks.
use mathlib.Core.Bool.{Bool, false, true}
use mathlib.Core.List.{List, [], ◌++◌, ◌∷◌, append_assoc, append-nil}
use mathlib.Core.Path.{◌∙◌, ◌≡◌, ap, refl, sym}
use Prim.Native.Nat.{◌*◌, ◌+◌, ◌<◌, ◌^◌, ◌≤◌, suc, ℕ}
use native.Mathlib.Numerals.{add-one}
use native.Mathlib.Omega.{arith}
use lib.ListN.{drop, drop_of_length-le, get_or, length, length-append, replicate, set}
use lib.Seq.{drop-cons}
use borrow.Author.Tests.{le-leb, lt-leb}
use Rattle.lists.specs.Lists.{is_some, pad, pick}
use Rattle.lists.proofs.Cuts.{pad-more}
use Rattle.lists.proofs.Fills.{push_at}
use Rattle.lists.proofs.Keep.{none_of}
use Rattle.lists.proofs.Tests.{by_test, no_true}
use Rattle.names.specs.Names.{name_of, zero_name}
use Rattle.names.specs.declared.Name.{Name}
use Rattle.rehearsal.specs.Line.{Form, Row, a_name, a_number, asked, behind, command, command_of, fits, is_number, is_of, line_bytes, max_words, name_among, no_row, not_understood, row_for, space, up_to, value_of, values}
use Rattle.rehearsal.specs.declared.Command.{Command}
use Rattle.rehearsal.specs.declared.Verb.{Verb}
use Rattle.rehearsal.proofs.Rows.{no-row}
use Rattle.std.specs.Prelude.{Option, Some, None}
use Rattle.lines.specs.Places.{Shape, is_name, number_in, row_found, shape_of}
use Rattle.lines.proofs.Shapes.{row_named, row_none, row_of, row_other, row-short, stands_at}
use Rattle.lines.proofs.Words.{behind-past, behind-stop, next-behind, next-stop, next-within, word-within}
use mir.Syntax.{w64}
use mir.Val.{Fits}

-- the command of the forms and words that are left, where the name so far is s and the numbers so far are ns
unfoldable pub command_on : Verb → Name → List ℕ → List Form → List (List ℕ) → Command
command_on v s ns fs ws = pick (fits fs ws) (command v (name_among s fs ws) (ns ++ values fs ws)) not_understood

-- what one word makes of it
module _ (v : Verb) (s : Name) (ns : List ℕ) (fs : List Form) (w : List ℕ) (ws : List (List ℕ)) where
  on-name : is_some w ≡ true → command_on v s ns (a_name ∷ fs) (w ∷ ws) ≡ command_on v (name_of w) (ns ++ 0 ∷ []) fs ws
  unfolding command_on fits name_among values
  on-name e = rw (e, append_assoc ns (0 ∷ []) (values fs ws))

  on-number : is_number w ≡ true → command_on v s ns (a_number ∷ fs) (w ∷ ws) ≡ command_on v s (ns ++ value_of w ∷ []) fs ws
  unfolding command_on fits name_among values
  on-number e = rw (e, append_assoc ns (value_of w ∷ []) (values fs ws))

  on-unfit : (f : Form) → is_of f w ≡ false → command_on v s ns (f ∷ fs) (w ∷ ws) ≡ not_understood
  unfolding command_on fits
  on-unfit f e = rw e

module _ (v : Verb) (s : Name) (ns : List ℕ) where
  on-few : (f : Form) (fs : List Form) → command_on v s ns (f ∷ fs) [] ≡ not_understood
  unfolding command_on fits
  on-few f fs = refl

  on-many : (w : List ℕ) (ws : List (List ℕ)) → command_on v s ns [] (w ∷ ws) ≡ not_understood
  unfolding command_on fits
  on-many w ws = refl

  on-end : command_on v s ns [] [] ≡ command v s ns
  unfolding command_on fits name_among values
  on-end = rw (append-nil ns)

-- the same test, as a form and as a place
a-name : (f : Form) → is_name f ≡ true → f ≡ a_name
a-name a_number e = no_true e refl
a-name a_name e = refl

a-number : (f : Form) → is_name f ≡ false → f ≡ a_number
a-number a_number e = refl
a-number a_name e = no_true refl e

-- ---- what the test of a word says
empty_word : (w : List ℕ) → length w ≡ 0 → is_some w ≡ false
empty_word [] e = refl
empty_word (b ∷ w) e = absurd (omega arith)

some_word : (w : List ℕ) → (length w ≡ 0 → ⊥) → is_some w ≡ true
some_word [] n = absurd (n refl)
some_word (b ∷ w) n = refl

number-not : (w : List ℕ) → number_in w ≡ None → is_number w ≡ false
number-not w e = by_test (is_number w) (λ t. let z : ◌≡◌ {A = ℕ} 0 1 = let f = rw t at e in cc in absurd (omega arith)) (λ t. t)

number-is : (w : List ℕ) (x : ℕ) → number_in w ≡ Some x → (is_number w ≡ true) × (value_of w ≡ x)
number-is w x e =
    by_test (is_number w)
    (λ t. let f = rw t at e in (t, cc))
    (λ t. let z : ◌≡◌ {A = ℕ} 0 1 = let f = rw t at e in cc in absurd (omega arith))

-- a number has a digit, so that its word stands within the line
number_some : (w : List ℕ) → is_number w ≡ true → 0 < length w
unfolding is_number
number_some [] e = no_true e refl
number_some (b ∷ w) e = omega arith

pub number-end : (s : List ℕ) (from : ℕ) (w : List ℕ) → w ≡ up_to space (drop from s) → (o : Option ℕ) (x : ℕ) → o ≡ number_in w → o ≡ Some x
    → length s < 2 ^ 64 → Fits w64 (from + length w)
number-end s from w e o x f g h =
    let k = word-within space s from w e (number_some w (number-is w x (sym f ∙ g)).0) in record { fits = omega arith }

-- ---- `arguments`, on a line s
module _ (s : List ℕ) where
  abbrev R : Row
  R = row_for (up_to space s)

  abbrev A : Command
  A = asked R (behind space s)

  -- the first k words are read, and the next begins behind the space at this place
  pub record Gathering (numbers : List ℕ) (name : Name) (at k : ℕ) : Type 0 where
    pub within : at ≤ length s
    pub stands : at < length s → get_or s at 0 ≡ space
    pub read : List ℕ
    pub count : length read ≡ k
    pub filled : numbers ≡ pad max_words 0 read
    pub left : A ≡ command_on R.verb name read (drop k R.forms) (behind space (drop at s))

  pub gather-start : length (up_to space s) ≡ 1 → (numbers : List ℕ) (n : Name) → numbers ≡ replicate max_words 0 → n ≡ zero_name → Gathering numbers n 1 0
  unfolding asked command_on pad
  gather-start l numbers n e f =
      let i : 0 ≤ length s = omega arith in
      let j : 1 ≤ length s = rw l at (next-within space s 0 i) in
      let m : 1 < length s → get_or s 1 0 ≡ space = rw l at (next-stop space s 0 i) in
      let b : behind space s ≡ behind space (drop 1 s) = rw l at (next-behind space s 0 i) in
      record { within = j; stands = m; read = []; count = refl; filled = e; left = rw (f, ← b) }

  module _ (shape : Shape) (p : shape ≡ shape_of R) where
    pub gather-room : (k : ℕ) → k < shape.words → k < max_words
    gather-room k h = let e = ap (λ (x : Shape). x.words) p in let g = row-short (up_to space s) in omega arith

    pub gather-offset : (k : ℕ) → k < shape.words → Fits w64 (k * 4)
    gather-offset k h = let g = gather-room k h in record { fits = omega arith }

    module _ (numbers : List ℕ) (name : Name) (at k : ℕ) (r : Gathering numbers name at k) where
      pub gather-many : shape.words ≤ k → at < length s → not_understood ≡ A
      gather-many h g =
          let e : length R.forms ≤ k = rw p at h in
          sym (r.left ∙ rw (drop_of_length-le R.forms e, behind-stop space s at g (r.stands g)) (on-many R.verb name r.read _ _))

      pub gather-end : shape.words ≤ k → length s ≤ at → record { verb = shape.verb; name = name; numbers = numbers } ≡ A
      gather-end h g =
          let e : length R.forms ≤ k = rw p at h in
          sym (r.left ∙ rw (drop_of_length-le R.forms e, behind-past space s at g, p, r.filled) (on-end R.verb name r.read))

      module _ (h : k < shape.words) where
        inside : k < length R.forms
        inside = rw p at h

        pub gather-few : length s ≤ at → not_understood ≡ A
        gather-few g = sym (r.left ∙ rw (drop-cons R.forms k a_number inside, behind-past space s at g) (on-few R.verb name r.read _ _))

        module _ (g : at < length s) (word : List ℕ) (w : word ≡ up_to space (drop (at + 1) s)) where
          here : (f : Form) → get_or R.forms k a_number ≡ f
              → A ≡ command_on R.verb name r.read (f ∷ drop (suc k) R.forms) (word ∷ behind space (drop (at + 1) s))
          here f e = r.left ∙ rw (drop-cons R.forms k a_number inside, behind-stop space s at g (r.stands g), e, w)

          pub gather-within : at + (1 + length word) ≤ length s
          gather-within = let i : at + 1 ≤ length s = omega arith in rw w (let n = next-within space s (at + 1) i in omega arith)

          -- the word is read: the places behind it
          next : (numbers' : List ℕ) (name' : Name) (x : ℕ) → numbers' ≡ pad max_words 0 (r.read ++ x ∷ [])
              → A ≡ command_on R.verb name' (r.read ++ x ∷ []) (drop (suc k) R.forms) (behind space (drop (at + 1) s))
              → Gathering numbers' name' (at + (1 + length word)) (k + 1)
          next numbers' name' x f l =
              let i : at + 1 ≤ length s = omega arith in
              let c = r.count in
              let u = length-append r.read (x ∷ []) in
              let e : at + (1 + length word) ≡ at + 1 + length (up_to space (drop (at + 1) s)) = rw w (omega arith) in
              let j : at + (1 + length word) ≤ length s = rw e (next-within space s (at + 1) i) in
              let m : at + (1 + length word) < length s → get_or s (at + (1 + length word)) 0 ≡ space = rw e (next-stop space s (at + 1) i) in
              record {
                within = j;
                stands = m;
                read = r.read ++ x ∷ [];
                count = omega arith;
                filled = f;
                left = l ∙ rw (add-one k, e, ← (next-behind space s (at + 1) i));
              }

          module _ (b : Bool) (q : b ≡ stands_at k shape.name) (t : b ≡ true) where
            form-name : get_or R.forms k a_number ≡ a_name
            form-name = a-name _ (row_named (up_to space s) k inside ∙ rw p at (sym q ∙ t))

            pub gather-nameless : length word ≡ 0 → not_understood ≡ A
            gather-nameless z = sym (here a_name form-name ∙ on-unfit R.verb name r.read _ word _ a_name (empty_word word z))

            pub gather-name : (length word ≡ 0 → ⊥) → (n : Name) → n ≡ name_of word → Gathering numbers n (at + (1 + length word)) (k + 1)
            gather-name z n e =
                let c = r.count in
                let f : numbers ≡ pad max_words 0 (r.read ++ 0 ∷ []) = r.filled ∙ sym (pad-more 0 max_words r.read (omega (arith, gather-room k h))) in
                next numbers n 0 f (here a_name form-name ∙ on-name R.verb name r.read _ word _ (some_word word z) ∙ rw e)

          module _ (b : Bool) (q : b ≡ stands_at k shape.name) (t : b ≡ false) where
            form-number : get_or R.forms k a_number ≡ a_number
            form-number = a-number _ (row_named (up_to space s) k inside ∙ rw p at (sym q ∙ t))

            pub gather-numberless : (o : Option ℕ) → o ≡ number_in word → o ≡ None → not_understood ≡ A
            gather-numberless o e z = sym (here a_number form-number ∙ on-unfit R.verb name r.read _ word _ a_number (number-not word (sym e ∙ z)))

            pub gather-number : (o : Option ℕ) (x : ℕ) → o ≡ number_in word → o ≡ Some x → Gathering (set numbers k x) name (at + (1 + length word)) (k + 1)
            gather-number o x e z =
                let (y, u) = number-is word x (sym e ∙ z) in
                next (set numbers k x) name x (push_at max_words k 0 numbers r.read r.filled r.count x (gather-room k h))
                (here a_number form-number ∙ on-number R.verb name r.read _ word _ y ∙ rw u)

pub ruleset gathering = (gather-start, gather-room, gather-offset, gather-many, gather-end, gather-few, gather-within, gather-nameless, gather-name, gather-numberless, gather-number)

-- ---- `understood`
letter-alone : (w : List ℕ) → length w ≡ 1 → w ≡ get_or w 0 0 ∷ []
letter-alone [] l = absurd (omega arith)
letter-alone (b ∷ w) l = ap (λ (k : List ℕ). b ∷ k) (none_of w (omega arith))

module _ (s : List ℕ) where
  pub line-long : line_bytes < length s → not_understood ≡ command_of s
  unfolding command_of
  line-long h = simp (lt-leb _ _ h)

  module _ (h : length s ≤ line_bytes) where
    pub line-asked : (c : Command) → c ≡ asked (row_for (up_to space s)) (behind space s) → c ≡ command_of s
    unfolding command_of
    line-asked c y = simp (le-leb _ _ h) y

    unrowed : row_for (up_to space s) ≡ no_row → not_understood ≡ command_of s
    unrowed e = line-asked not_understood (sym (rw e (no-row (behind space s))))

    module _ (w : List ℕ) (f : w ≡ up_to space s) where
      pub line-unlettered : (length w ≡ 1 → ⊥) → not_understood ≡ command_of s
      line-unlettered n = unrowed (row_other (up_to space s) (λ e. n (rw f e)))

      module _ (l : length w ≡ 1) (o : Option Shape) (e : o ≡ row_found (get_or w 0 0 ∷ [])) where
        found : o ≡ row_found (up_to space s)
        found = e ∙ ap row_found (sym (letter-alone w l) ∙ f)

        pub line-unknown : o ≡ None → not_understood ≡ command_of s
        line-unknown g = unrowed (row_none (up_to space s) (sym g ∙ found))

        pub line-shape : (r : Shape) → o ≡ Some r → r ≡ shape_of (row_for (up_to space s))
        line-shape r g = row_of (up_to space s) r (sym g ∙ found)

pub ruleset lines = (line-long, line-asked, line-unlettered, line-unknown, line-shape)
