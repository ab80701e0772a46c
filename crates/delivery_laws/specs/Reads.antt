-- What a partition reads of a sampling port, by the run of the port's link.
use Rattle.std.specs.Prelude.{◌≡◌, ℕ, slice_get, Some}
use Rattle.es_base.specs.Port.{Port}
use Rattle.triple_buffer.specs.Moments.{ArePublished, BufferState}
use Rattle.triple_buffer.specs.Rule.{KeptBuffers}
use Rattle.mailbox_port.specs.Port.{PortEnd}
use Rattle.receiver.specs.declared.port.PortOutlet.{PortOutlet}
use Rattle.receiver.specs.declared.port.PortOutlet.TheVariants as outlets
use Rattle.receiver.specs.Link.{IsPorted, Ported}
use Rattle.receiver.specs.Port.{ShowsPort}

-- A moment of a mailbox of the sampling port at this place of a link: a state of its table by the rule, in which all is
-- published that the port's outlet has published.
pub record IsMomentAt (link : Ported PortOutlet) (place longest : ℕ) (s : BufferState) : Type 0 where
  pub ported : IsPorted ShowsPort link
  pub port : Port
  pub there : slice_get link.core.settings.ports place ≡ Some port
  pub writer : PortEnd
  pub outlet : slice_get link.outlets place ≡ Some (outlets.Sampling writer)
  pub kept : KeptBuffers longest s
  pub published : ArePublished s writer.published
