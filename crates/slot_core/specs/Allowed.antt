-- Which steps are allowed.
use Rattle.std.specs.Prelude.{◌≡◌, ◌≢◌, ℕ, ◌<◌, ◌≤◌, ◌⊎◌, List, [], ◌∷◌, length, slice_index, slice_index_or, None, Some}
use Rattle.slot_core.specs.declared.event.CoreEvent.{CoreEvent}
use Rattle.slot_core.specs.declared.event.CoreEvent.TheVariants.{Scan, StoreWord, StoreLatest, LoadFirst, Announce, LoadSecond, LoadWord, Clear}
use Rattle.slot_core.specs.declared.view.Phase.{Phase}
use Rattle.slot_core.specs.declared.view.Phase.TheVariants.{Idle, Loaded, Announced, Holding}
use Rattle.slot_core.specs.declared.view.ReaderView.{ReaderView}
use Rattle.slot_core.specs.declared.view.WriterView.{WriterView}
use Rattle.slot_core.specs.Limits.{longest_message, most_messages, slot_words}
use Rattle.slot_core.specs.Words.{slot_of}
use Rattle.slot_core.specs.Message.{words_for, IsPadded}
use Rattle.slot_core.specs.State.{State, last_of, view_at, word_of}
use Rattle.slot_core.specs.Steps.{after_event}

-- ---- the writer's steps, by its view, in a port with this many readers and slots

-- the readers below it were scanned
-- rule: SAMP-7
pub record MayScan (readers : ℕ) (w : WriterView) (reader : ℕ) : Type 0 where
  pub exists : reader < readers
  pub idle : length w.stored ≡ 0
  pub next : reader ≡ length w.scanned

-- the word begins a message in this slot
-- rule: SAMP-8
pub record MayChoose (w : WriterView) (slot word : ℕ) : Type 0 where
  pub short : word ≤ longest_message
  -- not the slot that `latest` shows
  pub apart : w.last ≢ 0 → slot ≢ slot_of w.last
  -- and none that was found announced
  pub free : (reader : ℕ) → slice_index_or w.scanned reader None ≢ Some slot

-- the word continues the message
pub record MayContinue (w : WriterView) (slot word : ℕ) : Type 0 where
  pub same : slot ≡ w.chosen
  pub more : length w.stored < words_for (slice_index w.stored 0)
  pub padded : IsPadded (slice_index w.stored 0) (length w.stored) word

-- rule: SAMP-8
pub record MayStore (readers slots : ℕ) (w : WriterView) (slot index word : ℕ) : Type 0 where
  pub exists : slot < slots
  pub within : index < slot_words
  pub all : length w.scanned ≡ readers
  pub next : index ≡ length w.stored
  pub first : index ≡ 0 → MayChoose w slot word
  pub later : 0 < index → MayContinue w slot word

-- the message is whole, and has a message number
-- rule: SAMP-9
pub record MayPublish (w : WriterView) : Type 0 where
  pub begun : 0 < length w.stored
  pub whole : length w.stored ≡ words_for (slice_index w.stored 0)
  pub few : length w.published < most_messages

-- ---- a reader's steps, by its view

abbrev pub IsFree : Phase → Type 0
IsFree phase = (phase ≡ Idle) ⊎ (phase ≡ Loaded (word_of phase))

abbrev pub MayBegin : ReaderView → Type 0
MayBegin v = IsFree v.phase × (v.own ≡ 0)

-- rule: SAMP-10
abbrev pub MayAnnounce : ReaderView → Type 0
MayAnnounce v = v.phase ≡ Loaded (word_of v.phase)

-- rule: SAMP-10
abbrev pub MayLookAgain : ReaderView → Type 0
MayLookAgain v = v.phase ≡ Announced (word_of v.phase)

-- of the message that is held
-- rule: SAMP-11
abbrev pub MayLoadWord : ReaderView → ℕ → Type 0
MayLoadWord v index = (v.phase ≡ Holding (word_of v.phase)) × (index < length (last_of v.seen))

-- rule: SAMP-11
abbrev pub MayClear : ReaderView → Type 0
MayClear v = v.own ≢ 0

-- ---- each event, and lists of events

abbrev pub Allowed : ℕ → ℕ → State → CoreEvent → Type 0
Allowed readers slots c (Scan reader) = MayScan readers c.writer reader
Allowed readers slots c (StoreWord slot index word) = MayStore readers slots c.writer slot index word
Allowed readers slots c StoreLatest = MayPublish c.writer
Allowed readers slots c (LoadFirst reader) = (reader < readers) × MayBegin (view_at c.views reader)
Allowed readers slots c (Announce reader) = (reader < readers) × MayAnnounce (view_at c.views reader)
Allowed readers slots c (LoadSecond reader) = (reader < readers) × MayLookAgain (view_at c.views reader)
Allowed readers slots c (LoadWord reader index) = (reader < readers) × (index < slot_words) × MayLoadWord (view_at c.views reader) index
Allowed readers slots c (Clear reader) = (reader < readers) × MayClear (view_at c.views reader)

-- each event, after those before it
abbrev pub AreAllowed : ℕ → ℕ → State → List CoreEvent → Type 0
AreAllowed readers slots c [] = Unit {0}
AreAllowed readers slots c (event ∷ events) = Allowed readers slots c event × AreAllowed readers slots (after_event readers c event) events
