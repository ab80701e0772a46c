use Rattle.std.proofs.Common.{rules}
use Rattle.live_system.proofs.Ending.{as_many_links}
use Rattle.test_live_system.proofs.fills.counts.Goals as goal

pub try_port_counts-requires-clause-place : goal.try_port_counts-requires-clause-place
try_port_counts-requires-clause-place g c =
    let many = as_many_links _ _ _ c.args.pass.now.links c.requires in
    search rules
