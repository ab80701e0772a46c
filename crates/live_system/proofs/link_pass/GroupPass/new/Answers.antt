use Rattle.live_system.proofs.Openings.{is_new_group}
use Rattle.live_system.proofs.link_pass.GroupPass.new.Goals as goal

pub invariant_of-result : goal.invariant_of-result
invariant_of-result c =
    let links = c.requires.links in
    (is_new_group c.args.net c.args.pass c.args.counts.items links.0 links.1 c.requires.user c.requires.list links.2 links.3 links.4 c.requires.some, c.requires.checks)
