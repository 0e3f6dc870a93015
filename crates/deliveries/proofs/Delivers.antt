-- The ways through deliver, in plain variables: sender and receiver, the queue between them, its oldest message.
use mathlib.Core.Bool.{Bool, ◌&&◌, false, true}
use mathlib.Core.List.{List, [], ◌∷◌}
use mathlib.Core.Path.{◌∙◌, ◌≡◌, ap, refl, sym}
use Prim.Native.Nat.{◌*◌, ◌+◌, ◌<◌, ◌≤◌, ℕ}
use native.Mathlib.Omega.{arith}
use borrow.Author.Tests.{ltb-true}
use lib.Dec.{ltb}
use lib.ListN.{get_or, length, take}
use lib.Seq.{get_or-take, length-take-le}
use Rattle.lists.specs.Lists.{remove_at}
use Rattle.protocol.specs.Answers.{accept}
use Rattle.protocol.specs.Bounds.{max_messages, max_partitions}
use Rattle.protocol.specs.Deliver.{deliver, deliver_oldest, receive}
use Rattle.protocol.specs.Tables.{Model, is_partition, queue}
use Rattle.protocol.specs.declared.Message.{Message}
use Rattle.protocol.specs.declared.Refusal.TheVariants.{Down, OutOfRange, QueueEmpty}
use Rattle.protocol.specs.declared.Reply.TheVariants.{None}
use Rattle.tables.specs.Slots.{free_message, no_message}
use Rattle.tables.specs.View.{Sized, Stored, messages_of, partition_at, queue_at, view, Queue}
use Rattle.tables.specs.declared.Partition.{Partition}
use Rattle.tables.specs.declared.Tables.{Tables}
use Rattle.answers.specs.Called.{Ready, refused_with, stored}
use Rattle.answers.specs.declared.Answered.{Answered}
use Rattle.deliveries.specs.Taken.{Received, Waits, taken_from}
use Rattle.lists.proofs.Tests.{and_left, and_right, both_true}
use Rattle.lists.proofs.Tidies.{tidy-count}
use Rattle.protocol.proofs.Room.{answer-room, one-record, one-removed}
use Rattle.tables.proofs.Packs.{shaped-all}
use Rattle.tables.proofs.Views.{queue-view}
use Rattle.answers.proofs.Ways.{passes, read-four, read_up, ready-stored, ready-there, ready-view, refuses}

-- a list by its first element
split : {A : Type 0} (l : List A) (d : A) → 0 < length l → l ≡ get_or l 0 d ∷ remove_at 0 l
unfolding remove_at
split [] d h = absurd (omega arith)
split (x ∷ l) d h = refl

-- sender s and receiver r are there
module _ (t : Tables) (z : Sized t) (o : Ready t) (s r : ℕ) (hs : s < t.count) (hr : r < t.count) where
  abbrev m : Model
  m = view t

  abbrev rest : List Message
  rest = remove_at 0 (queue (view t) s r)

  pub receiver-stored : Stored t r
  receiver-stored = ready-stored t r z o hr

  queue-bound : (queue_at t (s * max_partitions + r)).count ≤ max_messages
  queue-bound =
      let a = read-four t s z o hs in
      let b = read-four t r z o hr in
      let q : Queue = queue_at t (s * max_partitions + r) in
      tidy-count max_messages free_message q.count q.items ((shaped-all t z o.shaped).queue (s * max_partitions + r) (omega arith))

  -- the queue y was read
  module _ (y : Queue) (e : y ≡ queue_at t (s * max_partitions + r)) where
    held : queue m s r ≡ messages_of y
    held = queue-view t s r ∙ ap messages_of (sym e)

    pub nothing-there : (a : Answered) → y.count ≡ 0 → a ≡ refused_with t QueueEmpty → a ≡ stored t (deliver_oldest (view t) s r (queue (view t) s r))
    unfolding stored
    nothing-there a n k =
        let l : queue m s r ≡ [] = held ∙ ap (λ (i : ℕ). take i y.items) n in
        k ∙ rw l refl

    -- its oldest message is x
    module _ (g : y.count ≡ 0 → ⊥) (x : Message) (v : x ≡ get_or y.items 0 no_message) where
      h : 0 < y.count
      h = omega arith

      long : length (messages_of y) ≡ y.count
      long =
          let a = read-four t s z o hs in
          let b = read-four t r z o hr in
          let c : y.count ≤ max_messages = rw e queue-bound in
          let n : length y.items ≡ max_messages = rw e (z.queue (s * max_partitions + r) (omega arith)) in
          length-take-le y.count y.items (omega arith)

      oldest : queue m s r ≡ x ∷ rest
      oldest =
          let k : get_or (messages_of y) 0 no_message ≡ x = get_or-take y.count y.items 0 no_message h ∙ sym v in
          let l : queue m s r ≡ get_or (queue m s r) 0 no_message ∷ rest = split (queue m s r) no_message (rw (held, long) h) in
          l ∙ ap (λ (g : Message). g ∷ rest) (ap (λ (q : List Message). get_or q 0 no_message) held ∙ k)

      pub received : Received t s r x
      received =
          let a : s < 4 = read-four t s z o hs in
          let b : r < 4 = read-four t r z o hr in
          let w : Waits t s r = record { ready = o; from = ready-stored t s z o hs; to = receiver-stored; sender = a; receiver = b; some = rw (← e) h } in
          record {
            answers = λ k. record { waits = w; room = answer-room m o.order s r x rest a b oldest k };
            exactly = one-removed m o.order r s x;
            lands = record { waits = w; single = one-record m o.order r x.number };
          }

      pub delivered : (a : Answered) → a ≡ stored t (accept x.number None (receive x.body (taken_from t s r) s r x))
          → a ≡ stored t (deliver_oldest (view t) s r (queue (view t) s r))
      delivered a i = i ∙ ap (λ (l : List Message). stored t (deliver_oldest m s r l)) (sym oldest)

  -- the receiver y is up, or down
  module _ (y : Partition) (e : y ≡ partition_at t r) where
    both-there : (is_partition m s && is_partition m r) ≡ true
    both-there = both_true (ready-there t s z o hs) (ready-there t r z o hr)

    pub deliver-down : (a : Answered) → y.up ≡ false → a ≡ refused_with t Down → a ≡ stored t (deliver (view t) s r)
    unfolding deliver
    deliver-down a u k = k ∙ refuses t _ Down _ _ refl (read_up t r z o hr y e ∙ u) ∙ passes t _ OutOfRange _ _ both-there

    pub deliver-goes : (a : Answered) → y.up ≡ true → a ≡ stored t (deliver_oldest (view t) s r (queue (view t) s r)) → a ≡ stored t (deliver (view t) s r)
    unfolding deliver
    deliver-goes a u k = k ∙ passes t _ Down _ _ (read_up t r z o hr y e ∙ u) ∙ passes t _ OutOfRange _ _ both-there

pub ruleset oldests = (receiver-stored, nothing-there, received, delivered)

pub ruleset deliveries = (receiver-stored, deliver-down, deliver-goes)

-- both are there, or not
module _ (t : Tables) (z : Sized t) (o : Ready t) (s r : ℕ) (b : Bool) (e : b ≡ (ltb s t.count && ltb r t.count)) where
  pub sender-there : b ≡ true → s < t.count
  sender-there f = ltb-true _ _ (and_left _ _ (sym e ∙ f))

  pub receiver-there : b ≡ true → r < t.count
  receiver-there f = ltb-true _ _ (and_right (ltb s t.count) _ (sym e ∙ f))

  pub deliver-outside : (a : Answered) → b ≡ false → a ≡ refused_with t OutOfRange → a ≡ stored t (deliver (view t) s r)
  unfolding deliver
  deliver-outside a f k = k ∙ refuses t _ OutOfRange _ _ refl (rw (ready-view t z o) (sym e ∙ f))

pub ruleset pairs = (sender-there, receiver-there, deliver-outside, read-four)
