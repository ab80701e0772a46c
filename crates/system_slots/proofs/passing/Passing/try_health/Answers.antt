use Rattle.std.proofs.Common.{arith}
use Rattle.live_system.proofs.Ending.{as_many_links}
use Rattle.system_slots.proofs.passing.Passing.try_health.Goals as goal

pub latest-latest-requires-clause-place : goal.latest-latest-requires-clause-place
latest-latest-requires-clause-place c =
    let many = as_many_links _ _ _ c.self.inside.pass.links c.self.invariant in
    let low = rw (← c.self.view_is) at c.requires in
    omega (arith, low, many.0, many.1)

pub try_health-requires-clause-place : goal.try_health-requires-clause-place
try_health-requires-clause-place c =
    let many = as_many_links _ _ _ c.self.inside.pass.links c.self.invariant in
    let low = rw (← c.self.view_is) at c.requires in
    omega (arith, low, many.0, many.1)
