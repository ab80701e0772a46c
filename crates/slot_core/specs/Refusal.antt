-- Why a step is refused: the first of place, turn, latest and announced (order: own).
use Rattle.std.specs.Prelude.{◌≡◌, ◌⊎◌, ℕ, ◌^◌, ◌%◌, ◌==◌, Bool, true, false, not, ◌&&◌, length, nat_le, nat_lt, slice_index, Option, None, Some, if◌then◌else◌}
use Rattle.std.specs.List.{list_any}
use Rattle.slot_core.specs.declared.event.CoreEvent.{CoreEvent}
use Rattle.slot_core.specs.declared.event.CoreEvent.TheVariants.{Scan, StoreWord, StoreLatest, LoadFirst, Announce, LoadSecond, LoadWord, Clear}
use Rattle.slot_core.specs.declared.event.StepRefusal.{StepRefusal}
use Rattle.slot_core.specs.declared.event.StepRefusal.TheVariants.{NoSuchPlace, NotItsTurn, SlotLatest, SlotAnnounced, Memory}
use Rattle.slot_core.specs.declared.view.Phase.{Phase}
use Rattle.slot_core.specs.declared.view.Phase.TheVariants.{Idle, Loaded, Announced, Holding}
use Rattle.slot_core.specs.declared.view.ReaderView.{ReaderView}
use Rattle.slot_core.specs.declared.view.WriterView.{WriterView}
use Rattle.slot_core.specs.Limits.{longest_message, most_messages, slot_words}
use Rattle.slot_core.specs.Words.{slot_of}
use Rattle.slot_core.specs.Message.{octets_after_end, words_for}
use Rattle.slot_core.specs.State.{State, last_of, view_at}

-- ---- the writer's turn, by its view

-- rule: SAMP-7
abbrev pub may_scan : WriterView → ℕ → Bool
may_scan w reader = length w.stored == 0 && reader == length w.scanned

abbrev pub is_padded : ℕ → ℕ → ℕ → Bool
is_padded octets index word = word % 256 ^ octets_after_end octets index == 0

-- the word continues the message in its slot
abbrev pub may_continue : WriterView → ℕ → ℕ → Bool
may_continue w slot word =
    slot == w.chosen && nat_lt (length w.stored) (words_for (slice_index w.stored 0)) && is_padded (slice_index w.stored 0) (length w.stored) word

-- all of this many readers were scanned, and the word begins a message or continues it
-- rule: SAMP-8
abbrev pub may_store : ℕ → WriterView → ℕ → ℕ → ℕ → Bool
may_store readers w slot index word =
    length w.scanned == readers && index == length w.stored
    && (if index == 0 then nat_le word longest_message else may_continue w slot word)

-- rule: SAMP-9
abbrev pub may_publish : WriterView → Bool
may_publish w =
    nat_lt 0 (length w.stored) && length w.stored == words_for (slice_index w.stored 0) && nat_lt (length w.published) most_messages

-- `latest` shows the slot
abbrev pub is_latest : WriterView → ℕ → Bool
is_latest w slot = not (w.last == 0) && slot == slot_of w.last

abbrev pub is_found : ℕ → Option ℕ → Bool
is_found slot None = false
is_found slot (Some found) = found == slot

-- the slot was found announced
abbrev pub is_announced : WriterView → ℕ → Bool
is_announced w slot = list_any (is_found slot) w.scanned

-- ---- a reader's turn, by its view

abbrev pub is_free : Phase → Bool
is_free Idle = true
is_free (Loaded word) = true
is_free (Announced word) = false
is_free (Holding word) = false

abbrev pub has_loaded : Phase → Bool
has_loaded Idle = false
has_loaded (Loaded word) = true
has_loaded (Announced word) = false
has_loaded (Holding word) = false

abbrev pub has_announced : Phase → Bool
has_announced Idle = false
has_announced (Loaded word) = false
has_announced (Announced word) = true
has_announced (Holding word) = false

abbrev pub is_holding : Phase → Bool
is_holding Idle = false
is_holding (Loaded word) = false
is_holding (Announced word) = false
is_holding (Holding word) = true

abbrev pub may_begin : ReaderView → Bool
may_begin v = is_free v.phase && v.own == 0

-- rule: SAMP-11
abbrev pub may_load_word : ReaderView → ℕ → Bool
may_load_word v index = is_holding v.phase && nat_lt index (length (last_of v.seen))

-- rule: SAMP-11
abbrev pub may_clear : ReaderView → Bool
may_clear v = not (v.own == 0)

-- ---- the first refusal

abbrev pub first_refusal : Bool → Bool → Bool → Bool → Option StepRefusal
first_refusal exists turn latest announced =
    if not exists then Some NoSuchPlace else
    (if not turn then Some NotItsTurn else
    (if latest then Some SlotLatest else
    (if announced then Some SlotAnnounced else None)))

-- of a step that chooses no slot
abbrev pub turn_of : Bool → Bool → Option StepRefusal
turn_of exists turn = first_refusal exists turn false false

abbrev pub refusal_to_store : ℕ → ℕ → WriterView → ℕ → ℕ → ℕ → Option StepRefusal
refusal_to_store readers slots w slot index word =
    first_refusal (nat_lt slot slots && nat_lt index slot_words) (may_store readers w slot index word)
    (index == 0 && is_latest w slot) (index == 0 && is_announced w slot)

-- None if the step is allowed
-- rule: SAMP-17
abbrev pub refusal_of : ℕ → ℕ → State → CoreEvent → Option StepRefusal
refusal_of readers slots c (Scan reader) = turn_of (nat_lt reader readers) (may_scan c.writer reader)
refusal_of readers slots c (StoreWord slot index word) = refusal_to_store readers slots c.writer slot index word
refusal_of readers slots c StoreLatest = turn_of true (may_publish c.writer)
refusal_of readers slots c (LoadFirst reader) = turn_of (nat_lt reader readers) (may_begin (view_at c.views reader))
refusal_of readers slots c (Announce reader) = turn_of (nat_lt reader readers) (has_loaded (view_at c.views reader).phase)
refusal_of readers slots c (LoadSecond reader) = turn_of (nat_lt reader readers) (has_announced (view_at c.views reader).phase)
refusal_of readers slots c (LoadWord reader index) =
    turn_of (nat_lt reader readers && nat_lt index slot_words) (may_load_word (view_at c.views reader) index)
refusal_of readers slots c (Clear reader) = turn_of (nat_lt reader readers) (may_clear (view_at c.views reader))

-- the step is refused for this reason: the first that there is; or memory ran out, and a message was to be published
-- rule: SAMP-17
abbrev pub IsRefusedBy : ℕ → ℕ → State → CoreEvent → StepRefusal → Type 0
IsRefusedBy readers slots c event refusal =
    (refusal_of readers slots c event ≡ Some refusal) ⊎ ((refusal ≡ Memory) × (event ≡ StoreLatest) × (refusal_of readers slots c event ≡ None))
