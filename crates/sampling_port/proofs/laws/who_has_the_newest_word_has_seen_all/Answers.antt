use Rattle.sampling_port.proofs.Moments.{has_seen_all}
use Rattle.sampling_port.proofs.laws.who_has_the_newest_word_has_seen_all.Goals as goal

pub returns : goal.returns
returns c readers slots s writer reader place w v kept there at has = has_seen_all readers slots s kept reader place v at writer w there has
