-- What a contract sees of the ends of a triple buffer.
use Rattle.std.specs.Prelude.{◌≡◌, ℕ, ◌+◌, ◌<◌, Bool, true, false, List, [], ◌∷◌, ◌++◌, length, Option, None, Some}
use Rattle.atomic_table.specs.Seated.{TableId}
use Rattle.es_base.specs.declared.event.Message.{Message}
use Rattle.triple_buffer.specs.Rule.{HasRoom, IsLastOf, StartsWith, message_in}
use Rattle.triple_buffer.specs.Plays.{BufferSeat, writer_publishes, reader_in, takes, writer_in}
use Rattle.triple_buffer.specs.declared.latest.Latest.{Latest}
use Rattle.triple_buffer.specs.declared.rule.SeatView.TheVariants.{Writes, Reads}

abbrev pub most_published : ℕ
most_published = 1152921504606846975

-- a writer: the messages that it published, and how many steps it made, each an exchange of the word
pub record BufferWriter : Type 0 where
  pub buffer : TableId
  pub longest : ℕ
  pub published : List Message
  pub steps : ℕ

-- a reader: the messages up to its own, all known to be published, its looks, true for each that found a newer message,
-- and how many steps it made, each a load or an exchange of the word
pub record BufferReader : Type 0 where
  pub buffer : TableId
  pub longest : ℕ
  pub seen : List Message
  pub known : List Message
  pub looks : List Bool
  pub steps : ℕ

abbrev pub writer_end : TableId → ℕ → BufferSeat → BufferWriter
writer_end buffer longest me = record {
  buffer = buffer;
  longest = longest;
  published = (writer_in me.0).published;
  steps = (writer_in me.0).steps;
}

abbrev pub reader_end : TableId → ℕ → BufferSeat → BufferReader
reader_end buffer longest me = record {
  buffer = buffer;
  longest = longest;
  seen = (reader_in me.0).seen;
  known = (reader_in me.0).known;
  looks = (reader_in me.0).looks;
  steps = (reader_in me.0).steps;
}

abbrev pub new_buffer_writer : TableId → ℕ → BufferWriter
new_buffer_writer buffer longest = record { buffer = buffer; longest = longest; published = []; steps = 0 }

abbrev pub new_reader : TableId → ℕ → BufferReader
new_reader buffer longest = record { buffer = buffer; longest = longest; seen = []; known = []; looks = []; steps = 0 }

-- one message more is published, in one step
abbrev pub with_published : BufferWriter → Message → BufferWriter
with_published writer message = record writer { published = writer.published ++ message ∷ []; steps = writer.steps + 1 }

-- the steps of a look: a load, and an exchange too if it found a newer message, which it then has
-- rule: CONC-17
abbrev pub LookSteps : BufferReader → BufferReader → Bool → Type 0
LookSteps v w false = (w.seen ≡ v.seen) × (w.steps ≡ v.steps + 1)
LookSteps v w true = (length v.seen < length w.seen) × (w.steps ≡ v.steps + 2)

-- it made one look
-- rule: CONC-17, EMB-9
pub record IsLookMade (v w : BufferReader) : Type 0 where
  pub newer : Bool
  pub looks : w.looks ≡ v.looks ++ newer ∷ []
  pub steps : LookSteps v w newer

-- It looked once: it has the last message that was published at its look. So it has no older one than before, and none
-- older than one of which it knew.
-- rule: CONC-17, EMB-9
pub record IsReadOf (v w : BufferReader) : Type 0 where
  pub buffer : w.buffer ≡ v.buffer
  pub longest : w.longest ≡ v.longest
  pub newest : w.known ≡ w.seen
  pub seen : StartsWith w.seen v.seen
  pub known : StartsWith w.seen v.known
  pub look : IsLookMade v w

-- it knows these to be published
-- rule: PORT-18
abbrev pub reader_told : BufferReader → List Message → BufferReader
reader_told reader published = record reader { known = published }

-- it has the last of these messages, and knows no more
pub record HasAll (v w : BufferReader) (published : List Message) : Type 0 where
  pub buffer : w.buffer ≡ v.buffer
  pub longest : w.longest ≡ v.longest
  pub seen : w.seen ≡ published
  pub known : w.known ≡ published

-- ---- what the ends keep

-- three buffers with no message yet
abbrev pub AreThree : ℕ → List (Option Latest) → Type 0
AreThree longest slots = (a : Latest) × (b : Latest) × (c : Latest) × (slots ≡ Some a ∷ Some b ∷ Some c ∷ [])
    × (HasRoom longest a × (a.number ≡ 0)) × (HasRoom longest b × (b.number ≡ 0)) × (HasRoom longest c × (c.number ≡ 0))

-- A writer has its buffer in its place.
pub record IsWriter (me : BufferSeat) (slot longest count : ℕ) : Type 0 where
  pub view : me.0 ≡ Writes (writer_in me.0)
  pub place : (writer_in me.0).slot ≡ slot
  pub below : slot < 3
  pub longest_is : (writer_in me.0).longest ≡ longest
  pub entered : (writer_in me.0).has ≡ true
  pub own : Latest
  pub holds : me.1 ≡ (slot, Some own) ∷ []
  pub room : HasRoom longest own
  pub count_is : count ≡ length (writer_in me.0).published

-- A reader has its buffer beside its place, which is vacant between its calls.
pub record IsReaderSeat (me : BufferSeat) (slot longest : ℕ) (has : Option Latest) : Type 0 where
  pub view : me.0 ≡ Reads (reader_in me.0)
  pub place : (reader_in me.0).slot ≡ slot
  pub below : slot < 3
  pub longest_is : (reader_in me.0).longest ≡ longest
  pub entered : (reader_in me.0).has ≡ true
  pub vacant : me.1 ≡ (slot, None) ∷ []
  pub own : Latest
  pub has_own : has ≡ Some own
  pub room : HasRoom longest own
  pub last : IsLastOf own (reader_in me.0).seen
  pub seen : StartsWith (reader_in me.0).known (reader_in me.0).seen

-- a writer's seat that may publish its buffer
pub record MaySend (longest : ℕ) (me : BufferSeat) (slot : ℕ) : Type 0 where
  pub view : me.0 ≡ Writes (writer_in me.0)
  pub place : (writer_in me.0).slot ≡ slot
  pub below : slot < 3
  pub longest_is : (writer_in me.0).longest ≡ longest
  pub entered : (writer_in me.0).has ≡ true
  pub own : Latest
  pub holds : me.1 ≡ (slot, Some own) ∷ []
  pub room : HasRoom longest own
  pub number : own.number ≡ length (writer_in me.0).published + 1

-- it published it, and has another buffer
pub record IsPublishedBy (longest : ℕ) (before after : BufferSeat) (sent : Latest) (slot : ℕ) : Type 0 where
  pub view : after.0 ≡ Writes (writer_publishes (writer_in before.0) (message_in sent) slot)
  pub below : slot < 3
  pub own : Latest
  pub holds : after.1 ≡ (slot, Some own) ∷ []
  pub room : HasRoom longest own

-- a reader's seat that saw that the buffer between the ends is newer than this one
pub record MayReceive (longest : ℕ) (me : BufferSeat) (slot : ℕ) (has : Option Latest) : Type 0 where
  pub view : me.0 ≡ Reads (reader_in me.0)
  pub place : (reader_in me.0).slot ≡ slot
  pub below : slot < 3
  pub longest_is : (reader_in me.0).longest ≡ longest
  pub entered : (reader_in me.0).has ≡ true
  pub newer : (reader_in me.0).newer ≡ true
  pub vacant : me.1 ≡ (slot, None) ∷ []
  pub own : Latest
  pub has_own : has ≡ Some own
  pub room : HasRoom longest own

-- it has that buffer now
pub record IsReceived (longest : ℕ) (before after : BufferSeat) (slot : ℕ) (has : Option Latest) : Type 0 where
  pub all : List Message
  pub view : after.0 ≡ Reads (takes (reader_in before.0) all slot)
  pub below : slot < 3
  pub vacant : after.1 ≡ (slot, None) ∷ []
  pub own : Latest
  pub has_own : has ≡ Some own
  pub room : HasRoom longest own
  pub last : IsLastOf own all
  pub known : StartsWith all (reader_in before.0).known
  pub more : length (reader_in before.0).seen < length all
