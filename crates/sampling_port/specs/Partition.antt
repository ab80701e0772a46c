-- What a contract sees of a partition's reader, and what a read tells (ARINC 653, READ_SAMPLING_MESSAGE).
use Rattle.std.specs.Prelude.{◌≡◌, ℕ, ◌+◌, ◌-◌, ◌/◌, ◌<◌, ◌≤◌, min, List, length, slice_index}
use Rattle.slot_core.specs.Octets.{octet_of_words}
use Rattle.slot_core.specs.State.{last_of}
use Rattle.sampling_port.specs.Ends.{IsHeadOf, IsHeldAfter, IsNothing, IsReadOvertaken, IsSameEnd, ReaderEnd, is_told}
use Rattle.sampling_port.specs.declared.reader.Read.{Read}
use Rattle.sampling_port.specs.declared.reader.Read.TheVariants.{Message as Found, Empty as Nothing, Busy as Overtaken}
use Rattle.es_base.specs.declared.validity.Freshness.{Freshness}
use Rattle.sampling_port.specs.declared.partition.reading.Reading.{Reading}
use Rattle.sampling_port.specs.declared.partition.reading.Reading.TheVariants.{Message, Empty, Busy}

-- a reader, or one that holds a message: the end of its port, the port's refresh period in microseconds, and its
-- longest message in octets
pub record PartitionView : Type 0 where
  pub end : ReaderEnd
  pub refresh : ℕ
  pub max : ℕ

-- the same end of the same port
pub record IsSamePort (v w : PartitionView) : Type 0 where
  pub end : IsSameEnd v.end w.end
  pub refresh : w.refresh ≡ v.refresh
  pub max : w.max ≡ v.max

-- it made this many more steps
abbrev pub after_steps : PartitionView → ℕ → PartitionView
after_steps v more = record { end = record v.end { steps = v.end.steps + more }; refresh = v.refresh; max = v.max }

-- the same reader, which knows that these were published
-- rule: PORT-18
abbrev pub partition_told : PartitionView → List (List ℕ) → PartitionView
partition_told v published = record { end = is_told v.end published; refresh = v.refresh; max = v.max }

-- how often a read or a hold looks again
abbrev pub most_tries : ℕ
most_tries = 8

-- number of words with this many octets of a message, from `first` on; none may be one, in the midst of a word
abbrev pub words_of_range : ℕ → ℕ → ℕ
words_of_range first octets = (first + octets + 7) / 8 - first / 8

-- `out` begins with the octets of these words, as many as it has room for, and is else as before
-- rule: EMB-36
pub record IsCopyThatFits (words before out : List ℕ) (len : ℕ) : Type 0 where
  pub octets : (k : ℕ) → k < len → k < length out → slice_index out k ≡ octet_of_words words k
  pub others : (k : ℕ) → len ≤ k → slice_index out k ≡ slice_index before k

-- ---- what a read tells, by cases

abbrev pub IfReadMessage : Reading → (ℕ → ℕ → ℕ → Freshness → Type 0) → Type 0
IfReadMessage (Message number time len validity) P = P number time len validity
IfReadMessage _ P = Unit {0}

abbrev pub IfReadEmpty : Reading → Type 0 → Type 0
IfReadEmpty Empty P = P
IfReadEmpty _ P = Unit {0}

abbrev pub IfBusy : Reading → (ℕ → Type 0) → Type 0
IfBusy (Busy number) P = P number
IfBusy _ P = Unit {0}

-- what a read by this reader into `out` says, but for the validity
-- rule: EMB-36
abbrev pub PlainAnswer : ReaderEnd → ReaderEnd → List ℕ → List ℕ → Read → Type 0
PlainAnswer v w before out (Found number time len) =
    IsHeadOf w.seen number time len × IsCopyThatFits (last_of w.seen) before out len
    × IsHeldAfter v w most_tries (3 + (min len (length before) + 7) / 8)
PlainAnswer v w before out Nothing = IsNothing v w × (out ≡ before)
PlainAnswer v w before out (Overtaken number) = IsReadOvertaken v w most_tries number × (out ≡ before)
