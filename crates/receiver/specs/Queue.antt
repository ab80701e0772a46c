-- The queue of a port, as its outlet knows it.
use Rattle.std.specs.Prelude.{◌≡◌, ◌≤◌, ℕ, ◌+◌, ◌-◌, List, [], ◌∷◌, length, max}
use Rattle.message_ring.specs.Queue.{Known, QueueId, opened_ring}

-- what the end that puts knows, the greatest number of messages that waited, and how many were lost since one was put
pub record CountedQueue : Type 0 where
  pub known : Known
  pub greatest : ℕ
  pub lost : ℕ

-- a new queue, which holds up to so many messages
abbrev pub new_queue : QueueId → ℕ → CountedQueue
new_queue queue depth = record { known = opened_ring queue depth; greatest = 0; lost = 0 }

-- What always holds of the greatest number: no more wait, no more were put, and the queue holds as many.
-- rule: EMB-7
pub record IsGreatest (now : Known) (count : ℕ) : Type 0 where
  pub no_more : length now.put ≤ length now.taken + count
  pub put : count ≤ length now.put
  pub few : count ≤ now.depth

-- ---- the greatest number, counted after each message

-- After each message so many were known to be taken, the earliest first: the greatest number that waited then, where it
-- was this before, and so many were put.
-- rule: EMB-7
abbrev pub greatest_after : ℕ → ℕ → List ℕ → ℕ
greatest_after greatest put [] = greatest
greatest_after greatest put (taken ∷ later) = greatest_after (max greatest (put + 1 - taken)) (put + 1) later

-- the numbers rise, from the first of these two to the second
abbrev pub RiseFrom : ℕ → ℕ → List ℕ → Type 0
RiseFrom low high [] = low ≤ high
RiseFrom low high (number ∷ numbers) = (low ≤ number) × RiseFrom number high numbers

-- so many messages were put in between, and what waited was counted after each of them
-- rule: EMB-7
pub record CountsWaiting (old new : CountedQueue) (messages : ℕ) : Type 0 where
  pub taken : List ℕ
  pub each : length taken ≡ messages
  pub rising : RiseFrom (length old.known.taken) (length new.known.taken) taken
  pub greatest : new.greatest ≡ greatest_after old.greatest (length old.known.put) taken
