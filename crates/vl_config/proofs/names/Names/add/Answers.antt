use Rattle.std.proofs.Common.{rules}
use Rattle.vl_config.proofs.PortNames.{one_more_name}
use Rattle.vl_config.proofs.names.Names.add.Goals as goal

pub returns : goal.returns
returns c = λ ports known. one_more_name c.args.self.now (record { names = c.insert.new.self }) c.key_of.result ports c.args.port.now
    c.in_ok-insert.ensures.updates (search rules) known
