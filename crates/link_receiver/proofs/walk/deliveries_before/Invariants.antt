use Rattle.std.proofs.Common.{◌++◌, List, take, reverse}
use Rattle.es_base.specs.declared.event.Event.{Event}
use Rattle.link_rules.specs.Reassembly.{groups_in}
use Rattle.link_rules.specs.Run.{IsRun}
use Rattle.ip_reassembly.specs.Kept.{StandsFor}
use Rattle.link_receiver.specs.Walk.{AreSince}
use Rattle.link_receiver.proofs.walk.deliveries_before.Given as goal

-- the groups and the messages are those of the events so far, whatever was before them
abbrev pub invariant-events : goal.invariant-events
invariant-events l =
    let past = reverse (take l.place l.history.items) in
    (earlier : List Event) → StandsFor l.initial.reassembly l.settings.reassembly (groups_in l.settings earlier) → IsRun l.settings (reverse l.history.items ++ earlier)
    → StandsFor l.reassembly l.settings.reassembly (groups_in l.settings (past ++ earlier)) × AreSince l.settings earlier past l.port l.messages.items
