use Rattle.std.proofs.Common.{◌∙◌, ◌+◌, List, ap, drop, take}
use Rattle.link_core.specs.Counted.{shown}
use Rattle.network_calls.specs.Calls.{count_calls}
use Rattle.network_calls.specs.Passes.{calls_with}
use Rattle.live_system.specs.Groups.{links_of_groups}
use Rattle.live_system.specs.Pass.{KnownLink}
use Rattle.live_system.specs.System.{keeping_no_frame}
use Rattle.live_system.proofs.LookingUp.{before_more, count_here, none_more_of, in_three}
use Rattle.live_system.proofs.net_pass.NetPass.count.Goals as goal

pub returns-in-Some : goal.returns-in-Some
returns-in-Some c =
    let groups = c.deref-group-items.result.now in
    let at = c.groups.group-index in
    let group = c.group-item.result in
    count_here c.args.vl c.args.kind (links_of_groups (take at groups)) group (links_of_groups (drop (at + 1) groups)) c.in-Some.count c.groups.invariant.1 c.in-Some.ensures
    ∙ ap (λ (links : List KnownLink). shown (count_calls c.args.kind (calls_with keeping_no_frame c.args.vl links))) (in_three groups at group c.groups-test.true c.group-item.is ∙ c.groups.invariant.0)

pub groups-preserved : goal.groups-preserved
groups-preserved c =
    let groups = c.deref-group-items.result.now in
    let at = c.groups.group-index in
    let group = c.group-item.result in
    let more = before_more groups at group c.groups-test.true c.group-item.is in
    (c.groups.invariant.0, rw more (none_more_of c.args.vl c.args.kind (links_of_groups (take at groups)) group c.groups.invariant.1 c.in-None.ensures))
