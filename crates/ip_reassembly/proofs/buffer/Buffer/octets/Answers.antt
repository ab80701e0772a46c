use Rattle.std.proofs.Common.{arith}
use Rattle.ip_reassembly.proofs.Stretches.{all_held}
use Rattle.ip_reassembly.proofs.Written.{read_octets}
use Rattle.ip_reassembly.proofs.buffer.Buffer.octets.Goals as goal

pub returns : goal.returns
returns c = rw (← c.self.view_is, c.deref.ensures.value) (λ pieces d holds made long. read_octets _ pieces d _ (omega arith) (all_held c.self.inside.total c.self.inside.octets.items c.self.inside.marks.items pieces holds) made long)
