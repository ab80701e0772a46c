use Rattle.std.proofs.Common.{◌≡◌}
use Rattle.std.specs.Io.KnownBytes.{Keeps}
use Rattle.hex_trace.proofs.source.DeviceSource.read.Given as goal

-- interrupted reads changed nothing
abbrev pub invariant-loop : goal.invariant-loop
invariant-loop g l =
    let remaining = g.T.Read.remaining in
    record {
      bytes : Keeps (remaining l.fn.self.inner) (remaining l.self.inner);
      flag : l.self.failed ≡ l.fn.self.failed;
    }
