use Rattle.std.proofs.Common.{refl}
use Rattle.slot_core.proofs.machine.Core.opening.Goals as goal

pub returns : goal.returns
returns c = rw (c.zeros.ensures, c.new.ensures, c.new-2.ensures, c.new-3.ensures.items, c.newcomers.ensures) refl
