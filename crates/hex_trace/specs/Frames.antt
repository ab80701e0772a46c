-- The frames of a trace.
use Rattle.std.specs.Prelude.{◌<◌, ℕ, List, [], ◌∷◌, ◌++◌, length, map}
use Rattle.std.specs.List.{All}
use Rattle.block_list.specs.declared.octet_block.LentOctets.{LentOctets}
use Rattle.block_list.specs.OctetBlock.{OctetBlock, TimedOctets}

-- a frame, and when it came, in microseconds
pub record TimedFrame : Type 0 where
  pub time : ℕ
  pub frame : List ℕ

abbrev pub timed_frame : ℕ → List ℕ → TimedFrame
timed_frame time octets = record { time = time; frame = octets }

-- a frame as it was lent
abbrev pub lent_as : LentOctets → TimedFrame
lent_as lent = timed_frame lent.time lent.octets.now

abbrev pub frame_of_octets : TimedOctets → TimedFrame
frame_of_octets octets = timed_frame octets.time octets.octets

abbrev pub frames_of_block : OctetBlock → List TimedFrame
frames_of_block block = map frame_of_octets block.items

-- the frames of all blocks, one block after another
abbrev pub joined_blocks : List OctetBlock → List TimedFrame
joined_blocks [] = []
joined_blocks (block ∷ blocks) = frames_of_block block ++ joined_blocks blocks

abbrev pub NoneIsEmpty : List OctetBlock → Type 0
NoneIsEmpty blocks = All (λ (block : OctetBlock). 0 < length block.items) blocks

-- the first block has a frame at this place, if there is a block
abbrev pub IsInFirst : ℕ → List OctetBlock → Type 0
IsInFirst at [] = Unit {0}
IsInFirst at (block ∷ blocks) = at < length block.items
