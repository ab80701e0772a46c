use Rattle.std.proofs.Common.{List, ◌++◌, take}
use Rattle.es_base.specs.Port.{Port}
use Rattle.vl_config.specs.Names.{AreNamesOf}
use Rattle.vl_config.proofs.names.Names.add_all.Given as goal

abbrev pub invariant-loop-port : goal.invariant-loop-port
invariant-loop-port l = (earlier : List Port) → AreNamesOf l.fn.self earlier → AreNamesOf l.self (earlier ++ take l.port-index l.ports)
