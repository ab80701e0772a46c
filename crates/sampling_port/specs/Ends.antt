-- What a contract sees of the ends of a port, and what each call does (ARINC 664 Part 7, sampling service; own).
use Rattle.std.specs.Prelude.{◌≡◌, ℕ, ◌+◌, ◌*◌, ◌/◌, ◌<◌, ◌≤◌, ◌==◌, nat_lt, Bool, true, false, List, [], ◌∷◌, ◌++◌, length, map, replicate, slice_index, Option, None, Some, if◌then◌else◌}
use Rattle.atomic_table.specs.Seated.{TableId}
use Rattle.slot_core.specs.Limits.{longest_message, most_messages}
use Rattle.slot_core.specs.Message.{IsMessage}
use Rattle.slot_core.specs.Octets.{octet_of_words, words_of}
use Rattle.slot_core.specs.State.{StartsWithSeen, last_of}
use Rattle.sampling_port.specs.Seats.{ReaderSeated, new_seats}
use Rattle.sampling_port.specs.Writes.{steps_to_publish}
use Rattle.sampling_port.specs.declared.writer.PublishFault.{PublishFault}
use Rattle.sampling_port.specs.declared.writer.PublishFault.TheVariants.{TooLong, Exhausted}
use Rattle.sampling_port.specs.declared.reader.Read.{Read}
use Rattle.sampling_port.specs.declared.reader.Read.TheVariants.{Message, Empty, Busy}
use Rattle.sampling_port.specs.declared.reader.NotHeld.{NotHeld}
use Rattle.sampling_port.specs.declared.reader.NotHeld.TheVariants.{Empty as NoMessage, Busy as Overtaken}

-- which port it is
abbrev pub PortId : Type 0
PortId = TableId

-- ---- a writer: the words of each message that it published, and how many steps it made

pub record WriterEnd : Type 0 where
  pub port : TableId
  pub published : List (List ℕ)
  pub steps : ℕ

abbrev pub new_writer : TableId → WriterEnd
new_writer port = record { port = port; published = []; steps = 0 }

-- fault of a message of this many octets, after this many publications
-- rule: PORT-5, SAMP-21
abbrev pub publish_fault : ℕ → ℕ → Option PublishFault
publish_fault published octets =
    if nat_lt longest_message octets then Some TooLong else if published == most_messages then Some Exhausted else None

-- the message of these octets and this time is published, in as many steps as that takes
-- rule: PORT-4
pub record IsPublished (readers : ℕ) (before after : WriterEnd) (octets : List ℕ) (time : ℕ) : Type 0 where
  pub port : after.port ≡ before.port
  pub published : after.published ≡ before.published ++ words_of octets time ∷ []
  pub steps : after.steps ≡ before.steps + steps_to_publish readers (length octets)

-- ---- a reader: the words of each message that was published when it last looked or was told, its looks, true for
-- each that ended with a hold, and how many steps it made

pub record ReaderEnd : Type 0 where
  pub port : TableId
  pub place : ℕ
  pub seen : List (List ℕ)
  pub looks : List Bool
  pub steps : ℕ

abbrev pub end_of_reader : ReaderSeated → ReaderEnd
end_of_reader seat = record {
  port = seat.port;
  place = seat.place;
  seen = seat.knows.view.seen;
  looks = seat.knows.looks;
  steps = seat.knows.steps;
}

-- this many new readers, in order of their places
abbrev pub new_readers : TableId → ℕ → List ReaderEnd
new_readers port readers = map end_of_reader (new_seats port readers)

-- the same end of the same port
pub record IsSameEnd (v w : ReaderEnd) : Type 0 where
  pub port : w.port ≡ v.port
  pub place : w.place ≡ v.place

-- ---- a read or a hold

-- how often it looks again
abbrev pub AreTries : ℕ → Type 0
AreTries tries = (0 < tries) × (tries ≤ 8)

-- all that it saw before is still seen, and the last message seen is held: it was the newest at the last of the
-- looks, the one that held, after so many that failed. A try is two steps; `more` steps follow
-- rule: SAMP-22, EMB-36
pub record IsHeldAfter (v w : ReaderEnd) (tries more : ℕ) : Type 0 where
  pub seen : StartsWithSeen w.seen v.seen
  pub some : 0 < length w.seen
  pub message : IsMessage (last_of w.seen)
  pub failed : ℕ
  pub within : failed < tries
  pub looks : w.looks ≡ (v.looks ++ replicate (1 + failed) false) ++ true ∷ []
  pub steps : w.steps ≡ v.steps + (1 + 2 * (1 + failed) + more)

-- nothing was published at its one look
-- rule: SAMP-22
pub record IsNothing (v w : ReaderEnd) : Type 0 where
  pub before : v.seen ≡ []
  pub seen : w.seen ≡ []
  pub looks : w.looks ≡ v.looks ++ false ∷ []
  pub steps : w.steps ≡ v.steps + 1

-- each try found a newer message; the announcement is cleared in the last step
-- rule: SAMP-22, EMB-36
pub record IsReadOvertaken (v w : ReaderEnd) (tries newest : ℕ) : Type 0 where
  pub seen : StartsWithSeen w.seen v.seen
  pub newer : length v.seen + tries ≤ length w.seen
  pub number : newest ≡ length w.seen
  pub looks : w.looks ≡ v.looks ++ replicate (1 + tries) false
  pub steps : w.steps ≡ v.steps + (2 + 2 * tries)

-- the number, the time and the length of the last of these messages
pub record IsHeadOf (messages : List (List ℕ)) (newest at octets : ℕ) : Type 0 where
  pub number : newest ≡ length messages
  pub time : at ≡ slice_index (last_of messages) 1
  pub len : octets ≡ slice_index (last_of messages) 0

-- `out` begins with the octets of these words, and is else as before
pub record IsCopy (words before out : List ℕ) (len : ℕ) : Type 0 where
  pub octets : (k : ℕ) → k < len → slice_index out k ≡ octet_of_words words k
  pub others : (k : ℕ) → len ≤ k → slice_index out k ≡ slice_index before k

-- what a read gives. After a hold it loads each word of the message, and clears its announcement
-- rule: SAMP-23, EMB-36
abbrev pub ReadAnswer : ReaderEnd → ReaderEnd → ℕ → List ℕ → List ℕ → Read → Type 0
ReadAnswer v w tries before out (Message number time len) =
    IsHeadOf w.seen number time len × IsCopy (last_of w.seen) before out len × IsHeldAfter v w tries (3 + (len + 7) / 8)
ReadAnswer v w tries before out Empty = IsNothing v w × (out ≡ before)
ReadAnswer v w tries before out (Busy number) = IsReadOvertaken v w tries number × (out ≡ before)

abbrev pub IsNotHeld : ReaderEnd → ReaderEnd → ℕ → NotHeld → Type 0
IsNotHeld v w tries NoMessage = IsNothing v w
IsNotHeld v w tries (Overtaken number) = IsReadOvertaken v w tries number

-- ---- a meeting

-- rule: PORT-18
abbrev pub is_told : ReaderEnd → List (List ℕ) → ReaderEnd
is_told v published = record v { seen = published }

-- what a reader gets that meets its port before and after the read: the last published message, or none
-- rule: PORT-18
abbrev pub ReadsLast : List (List ℕ) → List ℕ → List ℕ → Read → Type 0
ReadsLast published before out (Message number time len) =
    (0 < length published) × IsHeadOf published number time len × IsCopy (last_of published) before out len
ReadsLast published before out Empty = (published ≡ []) × (out ≡ before)
ReadsLast published before out (Busy number) = ⊥
