use Rattle.std.proofs.Common.{refl}
use Rattle.receiver.proofs.link.LinkWithPorts.open.Goals as goal

pub invariant_of-result : goal.invariant_of-result
invariant_of-result g c =
    let new = c.in_ok-link.ensures in
    rw new.nothing (c.new-nets.ensures c.in_ok-link.link.core.settings (rw (new.with_settings, c.window.ensures.value) refl))
