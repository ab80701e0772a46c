use Rattle.frame_reader.proofs.Heads.{same_head}
use Rattle.frame_reader.proofs.datagram.read_udp_head.Goals as goal

pub returns : goal.returns
returns c = λ octets head received. rw (← same_head octets, ← head, received) c.udp_head_in.ensures
