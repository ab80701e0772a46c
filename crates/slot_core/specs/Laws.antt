-- What the laws of a sampling port speak of.
use Rattle.std.specs.Prelude.{◌≡◌, ◌≢◌, ℕ, ◌<◌, ◌≤◌, List, [], ◌∷◌, length}
use Rattle.slot_core.specs.declared.event.CoreEvent.{CoreEvent}
use Rattle.slot_core.specs.declared.event.CoreEvent.TheVariants.{Clear, LoadSecond, StoreWord}
use Rattle.slot_core.specs.declared.view.Phase.TheVariants.{Holding}
use Rattle.slot_core.specs.declared.view.ReaderView.{ReaderView}
use Rattle.slot_core.specs.Limits.{longest_message}
use Rattle.slot_core.specs.Words.{latest_number, slot_of, Begins, ShowsWord}
use Rattle.slot_core.specs.Message.{IsMessage}
use Rattle.slot_core.specs.State.{State, last_of, opening, view_at}
use Rattle.slot_core.specs.Steps.{after_event, after_all}
use Rattle.slot_core.specs.Allowed.{Allowed, AreAllowed}

-- the reader's hold outlasts these events
abbrev pub Outlasts : ℕ → List CoreEvent → Type 0
Outlasts reader [] = Unit {0}
Outlasts reader (event ∷ events) = (event ≢ Clear reader) × Outlasts reader events

-- some list of events leads from the opening to this state
abbrev pub IsReached : ℕ → ℕ → State → Type 0
IsReached readers slots c = (events : List CoreEvent)
    × (AreAllowed readers slots (opening readers slots) events × (after_all readers (opening readers slots) events ≡ c))

-- the reader holds this word
-- rule: SAMP-12
abbrev pub HoldsWord : ℕ → State → ℕ → ℕ → Type 0
HoldsWord readers c reader word = (reader < readers) × ((view_at c.views reader).phase ≡ Holding word)

-- the slot that a word shows has the words of this message, whole
-- rule: SAMP-16
abbrev pub HasMessage : ℕ → State → ℕ → List ℕ → Type 0
HasMessage readers c word message = IsMessage message × Begins readers c.words (slot_of word) message

-- a message can begin in some slot
-- rule: PORT-8, SAMP-15
abbrev pub HasFreeSlot : ℕ → ℕ → State → Type 0
HasFreeSlot readers slots c = (slot : ℕ) × ((word : ℕ) → word ≤ longest_message → Allowed readers slots c (StoreWord slot 0 word))

-- what is held is the message that is the newest now, and all that is published is seen
-- rule: SAMP-16
pub record HoldsNewest (readers slots : ℕ) (c : State) (v : ReaderView) (word : ℕ) : Type 0 where
  pub newest : word ≡ latest_number c.words
  pub seen : v.seen ≡ c.writer.published
  pub number : ShowsWord slots word (length c.writer.published)
  pub message : HasMessage readers c word (last_of c.writer.published)

-- after some list of events, from the opening on, a reader looks again and holds this word; it still does after these
-- rule: SAMP-16
pub record IsHold (readers slots : ℕ) (c : State) (reader word : ℕ) (events : List CoreEvent) : Type 0 where
  pub reached : IsReached readers slots c
  pub looks : Allowed readers slots c (LoadSecond reader)
  pub holds : HoldsWord readers (after_event readers c (LoadSecond reader)) reader word
  pub allowed : AreAllowed readers slots (after_event readers c (LoadSecond reader)) events
  pub outlasts : Outlasts reader events

-- the state after them
abbrev pub after_hold : ℕ → State → ℕ → List CoreEvent → State
after_hold readers c reader events = after_all readers (after_event readers c (LoadSecond reader)) events
