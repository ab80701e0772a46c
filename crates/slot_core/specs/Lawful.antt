-- What holds of every state that a sampling port comes to.
use Rattle.std.specs.Prelude.{◌≡◌, ◌≢◌, ℕ, ◌<◌, ◌≤◌, ◌⊎◌, List, [], length, slice_index_or, None, Some}
use Rattle.slot_core.specs.declared.view.Phase.TheVariants.{Idle, Announced, Holding}
use Rattle.slot_core.specs.declared.view.ReaderView.{ReaderView}
use Rattle.slot_core.specs.declared.view.WriterView.{WriterView}
use Rattle.slot_core.specs.Limits.{most_messages}
use Rattle.slot_core.specs.Words.{latest_number, announcement, slot_of, table_words, Begins, ShowsWord}
use Rattle.slot_core.specs.Message.{IsMessage, IsStart}
use Rattle.slot_core.specs.State.{State, HasWord, StartsWithSeen, last_of, view_at}

-- `latest` shows the newest message
pub record IsNewest (readers slots : ℕ) (words : List ℕ) (w : WriterView) : Type 0 where
  pub none : length w.published ≡ 0 → latest_number words ≡ 0
  pub shown : 0 < length w.published → ShowsWord slots (latest_number words) (length w.published)
  pub few : length w.published ≤ most_messages
  pub kept : w.last ≡ latest_number words
  -- its slot begins with the words of the newest message
  pub stands : 0 < length w.published → Begins readers words (slot_of (latest_number words)) (last_of w.published)
  pub messages : (i : ℕ) → i < length w.published → IsMessage (slice_index_or w.published i [])

-- the slot that is written is no one else's
pub record IsWritten (readers slots : ℕ) (words : List ℕ) (w : WriterView) : Type 0 where
  pub all : length w.scanned ≡ readers
  pub within : w.chosen < slots
  pub apart : 0 < length w.published → w.chosen ≢ slot_of (latest_number words)
  pub free : (reader : ℕ) → slice_index_or w.scanned reader None ≢ Some w.chosen
  pub begun : Begins readers words w.chosen w.stored
  pub start : IsStart w.stored

-- what a reader knows is true
pub record IsReader (readers slots : ℕ) (words : List ℕ) (w : WriterView) (reader : ℕ) (v : ReaderView) : Type 0 where
  pub own : announcement words reader ≡ v.own
  pub idle : v.phase ≡ Idle → v.own ≡ 0
  pub announced : (word : ℕ) → v.phase ≡ Announced word → v.own ≡ word
  pub holding : (word : ℕ) → v.phase ≡ Holding word → v.own ≡ word
  pub seen : StartsWithSeen w.published v.seen
  -- its word shows the last message that it has seen
  pub shows : (word : ℕ) → HasWord v.phase word → (0 < length v.seen) × ShowsWord slots word (length v.seen)
  -- and is `latest` if it has seen all that is published
  pub newest : (word : ℕ) → HasWord v.phase word → length v.seen ≡ length w.published → word ≡ latest_number words
  -- a held slot begins with the words of that message
  pub held : (word : ℕ) → v.phase ≡ Holding word → Begins readers words (slot_of word) (last_of v.seen)
  -- the writer knows of a held slot once it has scanned the reader
  pub noticed : (word : ℕ) → v.phase ≡ Holding word → reader < length w.scanned
      → (slice_index_or w.scanned reader None ≡ Some (slot_of word)) ⊎ (slot_of word ≡ slot_of (latest_number words))

-- rule: SAMP-16
pub record Lawful (readers slots : ℕ) (c : State) : Type 0 where
  pub words : length c.words ≡ table_words readers slots
  pub views : length c.views ≡ readers
  pub newest : IsNewest readers slots c.words c.writer
  pub written : 0 < length c.writer.stored → IsWritten readers slots c.words c.writer
  pub each : (reader : ℕ) → reader < readers → IsReader readers slots c.words c.writer reader (view_at c.views reader)
