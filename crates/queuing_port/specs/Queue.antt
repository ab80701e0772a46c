-- A queue of messages, as its two ends know it while both use it (ARINC 664 Part 7, queuing service): what it may hold
-- at one moment of a call, as far as one end knows.
use Rattle.std.specs.Prelude.{◌≡◌, ℕ, ◌+◌, List, [], ◌∷◌, ◌++◌, length}
use Rattle.atomic_table.specs.Seated.{TableId}
use Rattle.es_base.specs.declared.event.Message.{Message}
use Rattle.es_base.specs.Queue as base
use Rattle.es_base.specs.Queue.{BeginsWith, KnownOf}

-- tells one queue from all others
abbrev pub ArrayQueueId : Type 0
ArrayQueueId = TableId

-- What an end knows of its queue, and how often it tried: a putter's puts, refused or not, and a taker's takes, with a
-- message or without. An answer that is given without a try leaves this number as it was.
pub record KnownQueue : Type 0 where
  pub queue : ArrayQueueId
  pub depth : ℕ
  pub put : List Message
  pub taken : List Message
  pub tries : ℕ

-- without the number of its tries
abbrev pub knowledge : KnownQueue → KnownOf ArrayQueueId
knowledge end = record { queue = end.queue; depth = end.depth; put = end.put; taken = end.taken }

-- an end that knows this, after so many tries
abbrev pub after_tries : ℕ → KnownOf ArrayQueueId → KnownQueue
after_tries tries known = record { queue = known.queue; depth = known.depth; put = known.put; taken = known.taken; tries = tries }

-- what both ends know of a new queue
abbrev pub opened_queue : ArrayQueueId → ℕ → KnownQueue
opened_queue queue depth = after_tries 0 (base.opened queue depth)

-- an end after one more try, by which it put or took nothing
-- rule: PORT-17
abbrev pub after_try : KnownQueue → KnownQueue
after_try end = record end { tries = end.tries + 1 }

-- a putter that put one message more, by one try
abbrev pub queue_with_put : KnownQueue → Message → KnownQueue
queue_with_put putter message = after_tries (putter.tries + 1) (base.with_put (knowledge putter) message putter.taken)

-- a taker that took one message more, by one try
-- rule: PORT-11
abbrev pub queue_with_taken : KnownQueue → Message → KnownQueue
queue_with_taken taker message = after_tries (taker.tries + 1) (base.with_taken (knowledge taker) message taker.put)

-- a queue whose lists are both known: it holds this many messages, put and not taken
-- rule: PORT-18
abbrev pub HoldsMessages : KnownQueue → ℕ → Type 0
HoldsMessages both count = base.Holds (knowledge both) count

-- a putter that put these messages, and knows of these that they were taken, may find these held
-- rule: PORT-10
abbrev pub PutterFinds : List Message → List Message → List Message → Type 0
PutterFinds put known held = (taken : List Message) × (put ≡ taken ++ held) × BeginsWith taken known

-- a taker that took these messages, and knows of these that they were put, may find these held
abbrev pub TakerFinds : List Message → List Message → List Message → Type 0
TakerFinds taken known held = (put : List Message) × (put ≡ taken ++ held) × BeginsWith put known

-- As far as this putter knows, the queue may be full: as many messages as its depth were put that it
-- doesn't know to be taken. Whether the queue is full, it can't know.
-- rule: PORT-10, PORT-17
abbrev pub MayBeFull : KnownQueue → Type 0
MayBeFull putter = (held : List Message) × (length held ≡ putter.depth) × PutterFinds putter.put putter.taken held

-- As far as this taker knows, the queue may be empty: it took all messages that it knows to be put.
-- rule: PORT-11
abbrev pub MayBeEmpty : KnownQueue → Type 0
MayBeEmpty taker = TakerFinds taker.taken taker.put []

-- As far as this taker knows, this message may be the oldest in the queue: it is the next of the put list
-- after those that were taken, or that list isn't known so far.
abbrev pub MayBeOldest : KnownQueue → Message → Type 0
MayBeOldest taker message = (later : List Message) × TakerFinds taker.taken taker.put (message ∷ later)
