-- A partition of the example.
use Rattle.std.specs.Prelude.{ℕ, List}
use Rattle.message_ring.specs.Queue.{Known}
use Rattle.mailbox_port.specs.Reads.{PortReader}

-- its reader, its end of a queue, and the octets that it got last
pub record PartitionEnds : Type 0 where
  pub pos : PortReader
  pub nav : Known
  pub out : List ℕ
