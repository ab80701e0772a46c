use Rattle.std.proofs.Common.{ℕ, List, ap, ◌∙◌, get_or}
use Rattle.sampling_port.proofs.Octets.{with_zeros}
use Rattle.sampling_port.proofs.publish.with_zeros.Goals as goal

pub returns : goal.returns
returns c i = with_zeros c.copy_from_slice.new.self _ i ∙ ap (λ (l : List ℕ). get_or l i 0) c.copy_from_slice.ensures.after
