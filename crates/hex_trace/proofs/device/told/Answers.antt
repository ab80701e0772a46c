use Rattle.std.proofs.Common.{ap, sym, rules}
use Rattle.hex_trace.specs.Device.{told_count}
use Rattle.hex_trace.proofs.device.told.Goals as goal

pub returns-in-Ok : goal.returns-in-Ok
returns-in-Ok c = sym (ap told_count c.in-Ok.is)

pub returns-in-Err : goal.returns-in-Err
returns-in-Err c = search rules
