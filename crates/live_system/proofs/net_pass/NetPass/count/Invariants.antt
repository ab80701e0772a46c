use Rattle.std.proofs.Common.{◌≡◌, None, take}
use Rattle.network_calls.specs.Passes.{pass_with}
use Rattle.live_system.specs.Groups.{links_of_groups}
use Rattle.live_system.specs.System.{keeping_no_frame}
use Rattle.live_system.proofs.net_pass.NetPass.count.Given as goal

-- no link of the groups so far has the number
abbrev pub invariant-groups : goal.invariant-groups
invariant-groups l = (links_of_groups l.group-items ≡ l.self.links) × (pass_with keeping_no_frame l.vl (links_of_groups (take l.group-index l.group-items)) ≡ None)
