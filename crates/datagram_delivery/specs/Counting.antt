-- Senders that count the identifications of their datagrams (RFC 791 3.2), and may begin the count anew at a restart.
--
-- Times are in microseconds.
use Rattle.std.specs.Prelude.{◌≡◌, ◌⊎◌, ℕ, suc, ◌+◌, ◌*◌, ◌<◌, ◌≤◌, ◌==◌, max, Bool, true, false, List, if◌then◌else◌, Ok}
use Rattle.es_base.specs.declared.event.Event.{Event}
use Rattle.es_base.specs.Packet.{PacketParts}
use Rattle.link_rules.specs.Fragments.{is_whole}
use Rattle.link_rules.specs.Reassembly.{packet_in}
use Rattle.frame_delivery.specs.Sending.{Copy, EachCopy, Numbering}
use Rattle.frame_delivery.specs.Network.{Timing}
use Rattle.datagram_delivery.specs.Parts.{IsPart}

-- ---- the datagrams of a sender's frames

pub record Counting : Type 0 where
  -- the number of the datagram of which the frame with an index has a part or the whole
  pub datagram : ℕ → ℕ
  -- the octets of the datagram with a number
  pub octets : ℕ → List ℕ
  -- the identification that a frame has
  pub ident : ℕ → ℕ
  -- whether the sender begins its count anew with a frame
  pub anew : ℕ → Bool

-- a copy has a part of its frame's datagram, and with its identification if it is a fragment
pub record CarriesPart (counting : Counting) (datagram : Event → List ℕ) (copy : Copy) : Type 0 where
  pub of : datagram copy.event ≡ counting.octets (counting.datagram copy.index)
  pub part : IsPart datagram copy.event
  pub ident : (packet : PacketParts) → packet_in copy.event.frame ≡ Ok packet → is_whole packet ≡ false → packet.ident ≡ counting.ident copy.index

abbrev pub CarryParts : Counting → (Event → List ℕ) → List Copy → Type 0
CarryParts counting datagram copies = EachCopy (λ before copy. CarriesPart counting datagram copy) copies

-- ---- how soon an identification may come again

-- a frame is sent so soon after another that copies of both may come within the limit: no later than the limit and what
-- the times on the way differ by (a wait that is longer than the limit counts in its place)
abbrev pub IsSoonAfter : ℕ → Timing → ℕ → ℕ → Type 0
IsSoonAfter limit timing index later = timing.sent later + timing.least ≤ timing.sent index + timing.greatest + max limit timing.wait

-- the sender doesn't begin its count anew after one frame and up to another
abbrev pub CountsOn : Counting → ℕ → ℕ → Type 0
CountsOn counting index later = (between : ℕ) → index < between → between ≤ later → counting.anew between ≡ false

-- the count doesn't turn over so soon: of two frames with one identification, with no new count between, the later is
-- sent late enough, or both have parts of one datagram
abbrev pub TurnsOverLate : ℕ → Timing → Counting → Type 0
TurnsOverLate limit timing counting =
    (index later : ℕ) → index ≤ later → CountsOn counting index later → IsSoonAfter limit timing index later → counting.ident index ≡ counting.ident later → counting.datagram index ≡ counting.datagram later

-- the pause before a restart is longer than the limit and what the times on the way differ by
abbrev pub IsLongPause : ℕ → Timing → Type 0
IsLongPause limit timing = timing.greatest + max limit timing.wait < timing.least + timing.pause

-- A sender counts identifications: the count turns over late; and if it begins anew, at a restart, the pause is long. A
-- count that a restart doesn't change never begins anew.
pub record KeepsCount (limit : ℕ) (numbering : Numbering) (timing : Timing) (counting : Counting) : Type 0 where
  pub turns : TurnsOverLate limit timing counting
  pub pauses : (index : ℕ) → counting.anew (suc index) ≡ true → (numbering.restarts (suc index) ≡ true) × IsLongPause limit timing

-- ---- datagrams one after another

-- the identification after another: 0 after 65,535
abbrev pub next_ident : ℕ → ℕ
next_ident ident = if ident == 65535 then 0 else ident + 1

-- each frame has a part of the datagram of the frame before it, or the next identification
pub record CountsUp (counting : Counting) : Type 0 where
  pub idents : (index : ℕ) → counting.ident index ≤ 65535
  pub up : (index : ℕ) → counting.anew (suc index) ≡ false
      → ((counting.datagram (suc index) ≡ counting.datagram index) × (counting.ident (suc index) ≡ counting.ident index)) ⊎ (counting.ident (suc index) ≡ next_ident (counting.ident index))

-- 65,536 frames take longer than the limit and what the times on the way differ by
abbrev pub IsOverBefore : ℕ → Timing → Type 0
IsOverBefore limit timing = timing.greatest + max limit timing.wait < timing.least + 65536 * timing.gap
