use Rattle.ip_reassembly.proofs.Lists.{copied_head}
use Rattle.ip_reassembly.proofs.fragment.head_of.Goals as goal

pub returns : goal.returns
returns c = rw c.copy_from_slice.ensures.after (copied_head c.args.octets.now c.min-len.result c.min-len.ensures)
