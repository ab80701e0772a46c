-- A queue of messages, as its two ends know it (ARINC 664 Part 7, queuing service). The put list has the messages that
-- were put, the taken list those that were taken, each in order. The taken list begins the put list, and the queue
-- holds the rest.
use Rattle.std.specs.Prelude.{◌≡◌, ℕ, List, [], ◌∷◌, ◌++◌, length}
use Rattle.es_base.specs.declared.event.Message.{Message}

-- What an end knows of its queue. A putter knows the whole put list and a beginning of the taken list, a taker the
-- whole taken list and a beginning of the put list. `queue` tells the queue from all others, `depth` is the most
-- messages of it.
pub record KnownOf (Q : Type 0) : Type 0 where
  pub queue : Q
  pub depth : ℕ
  pub put : List Message
  pub taken : List Message

-- rule: PORT-11
abbrev pub BeginsWith : List Message → List Message → Type 0
BeginsWith messages first = (rest : List Message) × (messages ≡ first ++ rest)

module _ {Q : Type 0} where
  -- what both ends know of a new queue
  abbrev pub opened : Q → ℕ → KnownOf Q
  opened queue depth = record { queue = queue; depth = depth; put = []; taken = [] }

  -- a putter that put one message more, and then knows these to be taken
  abbrev pub with_put : KnownOf Q → Message → List Message → KnownOf Q
  with_put putter message taken = record putter { put = putter.put ++ message ∷ []; taken = taken }

  -- a taker that took one message more, and then knows these to be put
  -- rule: PORT-11, EMB-10
  abbrev pub with_taken : KnownOf Q → Message → List Message → KnownOf Q
  with_taken taker message put = record taker { taken = taker.taken ++ message ∷ []; put = put }

  -- a queue whose lists are both known: it holds this many messages, put and not taken
  -- rule: PORT-18
  abbrev pub Holds : KnownOf Q → ℕ → Type 0
  Holds both count = (held : List Message) × (length held ≡ count) × (both.put ≡ both.taken ++ held)
