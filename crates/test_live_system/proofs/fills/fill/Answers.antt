use Rattle.std.proofs.Common.{rules}
use Rattle.live_system.proofs.Ending.{as_many_links}
use Rattle.test_live_system.proofs.fills.fill.Goals as goal

pub try_fill-requires-clause-place : goal.try_fill-requires-clause-place
try_fill-requires-clause-place g c =
    let many = as_many_links _ _ _ c.args.pass.now.links c.requires in
    search rules
