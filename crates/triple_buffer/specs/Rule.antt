-- The rule of the three buffers: the one between the ends has the last message that was published, unless the reader
-- has it (own).
use Rattle.std.specs.Prelude.{◌≡◌, ◌≢◌, ℕ, ◌<◌, ◌≤◌, ◌%◌, true, false, List, [], ◌∷◌, ◌++◌, length, take, slice_index, Option, Some}
use mathlib.Core.Option as maybe
use mathlib.Core.Option.{some}
use lib.ListN.{get_elem?}
use Rattle.atomic_table.specs.Table as table
use Rattle.es_base.specs.declared.event.Message.{Message}
use Rattle.triple_buffer.specs.declared.latest.Latest.{Latest}
use Rattle.triple_buffer.specs.declared.rule.WriterView.{WriterView}
use Rattle.triple_buffer.specs.declared.rule.ReaderView.{ReaderView}
use Rattle.triple_buffer.specs.declared.rule.SeatView.{SeatView}
use Rattle.triple_buffer.specs.declared.rule.SeatView.TheVariants.{Writes, Reads, Meets, Spent}

abbrev pub message : ℕ → List ℕ → Message
message time octets = record { time = time; octets = octets }

-- the message in a buffer
abbrev pub message_in : Latest → Message
message_in latest = message latest.time (take latest.len latest.octets.items)

abbrev pub StartsWith : List Message → List Message → Type 0
StartsWith messages first = (rest : List Message) × (messages ≡ first ++ rest)

abbrev pub HasLast : List Message → Message → Type 0
HasLast messages last = (before : List Message) × (messages ≡ before ++ last ∷ [])

-- a buffer with room for this many octets
abbrev pub HasRoom : ℕ → Latest → Type 0
HasRoom longest latest = length latest.octets.items ≡ longest

-- the last of these messages is in the buffer, with its number; 0 if there is none
-- rule: CONC-15, CONC-17
pub record IsLastOf (latest : Latest) (messages : List Message) : Type 0 where
  pub number : latest.number ≡ length messages
  pub last : 0 < length messages → HasLast messages (message_in latest)

-- the word: the place of the buffer between the ends, and 4 more if the reader hasn't taken it
-- rule: CONC-16
abbrev pub place_of_word : ℕ → ℕ
place_of_word word = word % 4

-- what the writer and the reader know is true of the word and of the buffers that no end has
-- rule: CONC-15, CONC-16
pub record LawfulBuffers (longest word : ℕ) (homes : List (maybe.Option (Option Latest))) (w : WriterView) (r : ReaderView) : Type 0 where
  pub count : length homes ≡ 3
  pub places : (place_of_word word < 3) × (w.slot < 3) × (r.slot < 3)
  pub apart : (w.slot ≢ place_of_word word) × (r.slot ≢ place_of_word word) × (w.slot ≢ r.slot)
  pub longest_is : (w.longest ≡ longest) × (r.longest ≡ longest)
  pub latest : Latest
  pub home : get_elem? homes (place_of_word word) ≡ some (some (Some latest))
  pub room : HasRoom longest latest
  pub newest : 4 ≤ word → IsLastOf latest w.published
  pub all_seen : word < 4 → r.seen ≡ w.published
  pub fresh : 4 ≤ word → length r.seen < length w.published
  pub known : StartsWith w.published r.known
  pub seen : StartsWith r.known r.seen
  pub newer : r.newer ≡ true → 4 ≤ word
  pub writers : w.has ≡ false → (own : Latest) × (get_elem? homes w.slot ≡ some (some (Some own))) × HasRoom longest own
  pub readers : r.has ≡ false → (own : Latest) × (get_elem? homes r.slot ≡ some (some (Some own))) × HasRoom longest own × IsLastOf own r.seen

-- what a seat knows, given which seats are the writer's and the reader's
module _ (w : WriterView) (r : ReaderView) (writer reader seat : ℕ) where
  abbrev pub KnowsItsEnd : SeatView → Type 0
  KnowsItsEnd (Writes v) = (v ≡ w) × (seat ≡ writer)
  KnowsItsEnd (Reads u) = (u ≡ r) × (seat ≡ reader)
  KnowsItsEnd (Meets v u) = ((v ≡ w) × (seat ≡ writer)) × ((u ≡ r) × (seat ≡ reader))
  KnowsItsEnd Spent = Unit {0}

-- rule: CONC-15
pub record KeptBuffers (longest : ℕ) (s : table.State (Option Latest) SeatView) : Type 0 where
  pub writer : WriterView
  pub reader : ReaderView
  pub writer_seat : ℕ
  pub reader_seat : ℕ
  pub one : length s.words ≡ 1
  pub lawful : LawfulBuffers longest (slice_index s.words 0) s.homes writer reader
  pub seats : (seat : ℕ) (view : SeatView) → get_elem? s.views seat ≡ some view → KnowsItsEnd writer reader writer_seat reader_seat seat view

-- ---- before the first step: the word is 1

abbrev pub writer_at_first : ℕ → WriterView
writer_at_first longest = record { published = []; slot = 0; has = false; longest = longest; steps = 0 }

abbrev pub reader_at_first : ℕ → ReaderView
reader_at_first longest = record { seen = []; known = []; newer = false; slot = 2; has = false; longest = longest; looks = []; steps = 0 }
