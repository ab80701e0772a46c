-- Protocols like the port's, each without one of its rules.
use Rattle.std.specs.Prelude.{◌≡◌, ◌⊎◌, ℕ, ◌<◌, List, [], ◌∷◌, length}
use Rattle.slot_core.specs.declared.event.CoreEvent.{CoreEvent}
use Rattle.slot_core.specs.declared.event.CoreEvent.TheVariants.{Announce, StoreLatest, StoreWord}
use Rattle.slot_core.specs.declared.view.Phase.TheVariants.{Holding}
use Rattle.slot_core.specs.declared.view.ReaderView.{ReaderView}
use Rattle.slot_core.specs.Words.{slot_of}
use Rattle.slot_core.specs.State.{State, last_of, opening, view_at, word_of}
use Rattle.slot_core.specs.Steps.{after_event, with_announcement}
use Rattle.slot_core.specs.Allowed.{Allowed}
use Rattle.slot_core.specs.Laws.{HasFreeSlot, HasMessage, HoldsWord, IsReached}

-- ---- a protocol says which events may come, and what each one does

abbrev pub AreAllowedBy : (State → CoreEvent → Type 0) → (State → CoreEvent → State) → State → List CoreEvent → Type 0
AreAllowedBy May step c [] = Unit {0}
AreAllowedBy May step c (event ∷ events) = May c event × AreAllowedBy May step (step c event) events

abbrev pub after_all_by : (State → CoreEvent → State) → State → List CoreEvent → State
after_all_by step c [] = c
after_all_by step c (event ∷ events) = after_all_by step (step c event) events

-- some list of events leads from the opening to this state
abbrev pub IsReachedBy : (State → CoreEvent → Type 0) → (State → CoreEvent → State) → State → State → Type 0
IsReachedBy May step start c =
    (events : List CoreEvent) × (AreAllowedBy May step start events × (after_all_by step start events ≡ c))

-- ---- without the second look: a reader holds what it announces

abbrev pub holds_at_once : ReaderView → ReaderView
holds_at_once v = record { phase = Holding (word_of v.phase); own = word_of v.phase; seen = v.seen }

abbrev pub after_in_haste : ℕ → State → CoreEvent → State
after_in_haste readers c (Announce reader) = with_announcement c reader (holds_at_once (view_at c.views reader))
after_in_haste readers c event = after_event readers c event

-- a reader holds a slot in which a message may begin
abbrev pub IsWrittenUnder : ℕ → ℕ → State → Type 0
IsWrittenUnder readers slots c = (reader word slot stored : ℕ) × (HoldsWord readers c reader word)
    × (Allowed readers slots c (StoreWord slot 0 stored)) × (slot ≡ slot_of word)

-- rule: SAMP-18
abbrev pub FailsInHaste : ℕ → ℕ → Type 0
FailsInHaste readers slots = (c : State) × (IsReachedBy (Allowed readers slots) (after_in_haste readers) (opening readers slots) c × IsWrittenUnder readers slots c)

-- ---- `latest` stored before the last word

abbrev pub AllowedEarly : ℕ → ℕ → State → CoreEvent → Type 0
AllowedEarly readers slots c event = Allowed readers slots c event ⊎ ((event ≡ StoreLatest) × (0 < length c.writer.stored))

-- a reader holds what is no message
abbrev pub HoldsNoMessage : ℕ → State → Type 0
HoldsNoMessage readers c = (reader word : ℕ) × (HoldsWord readers c reader word)
    × (HasMessage readers c word (last_of (view_at c.views reader).seen) → ⊥)

-- rule: SAMP-18
abbrev pub FailsEarly : ℕ → ℕ → Type 0
FailsEarly readers slots = (c : State) × (IsReachedBy (AllowedEarly readers slots) (after_event readers) (opening readers slots) c × HoldsNoMessage readers c)

-- ---- too few slots: all readers are scanned, no message is begun, and none can begin

abbrev pub IsStuck : ℕ → ℕ → State → Type 0
IsStuck readers slots c = (length c.writer.scanned ≡ readers) × (length c.writer.stored ≡ 0) × (HasFreeSlot readers slots c → ⊥)

-- rule: SAMP-18
abbrev pub GetsStuck : ℕ → ℕ → Type 0
GetsStuck readers slots = (c : State) × (IsReached readers slots c × IsStuck readers slots c)
