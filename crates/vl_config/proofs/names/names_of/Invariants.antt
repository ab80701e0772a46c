use Rattle.std.proofs.Common.{take}
use Rattle.es_base.specs.Config.{ports_in}
use Rattle.vl_config.specs.Names.{AreNamesOf}
use Rattle.vl_config.proofs.names.names_of.Given as goal

abbrev pub invariant-loop-link : goal.invariant-loop-link
invariant-loop-link l = AreNamesOf l.names (ports_in (take l.link-index l.links))
