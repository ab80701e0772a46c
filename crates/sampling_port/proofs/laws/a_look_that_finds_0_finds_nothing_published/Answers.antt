use Rattle.sampling_port.proofs.Moments.{finds_nothing_published}
use Rattle.sampling_port.proofs.laws.a_look_that_finds_0_finds_nothing_published.Goals as goal

pub returns : goal.returns
returns c readers slots found s kept load me after = finds_nothing_published readers slots found s kept load me after
