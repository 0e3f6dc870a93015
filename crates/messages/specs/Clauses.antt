-- What is asked of the queue from s to r, and of the records that its messages are of: xs of partition s, ys of partition r.
use Rattle.std.specs.Prelude.{Bool, ◌&&◌, ◌||◌, not, List, [], ◌∷◌, ◌+◌, ℕ, eqb, leb, length}
use Rattle.lists.specs.Lists.{all, any, every, is_none, keep, pick}
use Rattle.protocol.specs.Bounds.{max_messages}
use Rattle.protocol.specs.Elements.{body_fits, is_request, is_sent}
use Rattle.protocol.specs.Order.{is_answer_to, is_request_of, sent_as}
use Rattle.protocol.specs.declared.Message.{Message}
use Rattle.protocol.specs.declared.Record.{Record}
use Rattle.tables.specs.View.{messages_of, shaped_queue, Queue}

unfoldable pub message_fine : List Record → List Record → ℕ → ℕ → Message → Bool
message_fine xs ys s r x = body_fits x.kind x.body && pick (is_request x.body) (any (sent_as x r) xs) (any (sent_as x s) ys)

-- a sent record towards r has one message, in the queue q there or in the queue back
unfoldable pub record_answered : ℕ → List Message → List Message → Record → Bool
record_answered r q back x =
    not (is_sent x.stage) || (not (eqb x.partition r) || eqb (length (keep (is_request_of x) q) + length (keep (is_answer_to x) back)) 1)

unfoldable pub pair_fine : Bool → List Record → List Record → ℕ → ℕ → Queue → Queue → Bool
pair_fine up xs ys s r q back =
    every
    (shaped_queue q
    ∷ leb back.count max_messages
    ∷ (up || is_none (messages_of q))
    ∷ all (message_fine xs ys s r) (messages_of q)
    ∷ all (record_answered r (messages_of q) (messages_of back)) xs
    ∷ [])
