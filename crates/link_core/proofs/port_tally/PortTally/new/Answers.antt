use Rattle.std.proofs.Common.{refl}
use Rattle.link_core.specs.declared.port_tally.Brought.TheVariants.{Nothing}
use Rattle.link_core.proofs.Ports.{all_same}
use Rattle.link_core.proofs.port_tally.PortTally.new.Goals as goal

pub returns : goal.returns
returns c = record {
  overflowed = λ port low. all_same 0 32 port;
  too_long = λ port low. all_same 0 32 port;
  fragmented = λ port low. all_same 0 32 port;
  newest = λ port. rw (all_same Nothing 32 port) refl;
}
