-- What a link tells of itself while frames come to it.
use Rattle.std.specs.Prelude.{◌≡◌, length, Option}
use Rattle.es_base.specs.declared.place.PortNo.{PortNo}
use Rattle.link_core.specs.Counted.{shown}
use Rattle.link_core.specs.Past.{number_given_up}
use Rattle.link_core.specs.Ports.{TellsCounts}
use Rattle.link_core.specs.declared.port_tally.PortCounts.{PortCounts}
use Rattle.live_system.specs.declared.health.LinkHealth.{LinkHealth}
use Rattle.live_system.specs.Calls.{LiveLink}

-- the number of its frames, of both networks, and of the groups of pieces that it gave up; nothing changed
-- rule: EMB-42
pub record TellsOfLink (health : LinkHealth) (found left : LiveLink) : Type 0 where
  pub link : left ≡ found
  pub received : health.received ≡ shown (length found.core.past)
  pub given_up : health.given_up ≡ shown (number_given_up found.core.settings found.core.past)

-- what became of the messages for this port, of both networks; nothing changed
-- rule: EMB-46
pub record TellsOfPort (port : PortNo) (told : Option PortCounts) (found left : LiveLink) : Type 0 where
  pub link : left ≡ found
  pub counts : TellsCounts found.core.settings found.core.past port told
