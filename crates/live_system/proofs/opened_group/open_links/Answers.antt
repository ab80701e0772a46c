use Rattle.std.proofs.Common.{◌≡◌, ◌∙◌, ◌+◌, ◌∷◌, ◌++◌, [], List, ap, append_assoc, sym, take}
use Rattle.std.proofs.lemmas.List.{take_more}
use Rattle.receiver.specs.declared.ends.LinkEnds.{LinkEnds}
use Rattle.receiver.specs.declared.partition.PartitionEnd.{PartitionEnd}
use Rattle.receiver.specs.Outlet.{reads_by}
use Rattle.receiver.specs.Port.{ReadsPort, ShowsPort}
use Rattle.receiver.proofs.Opens.{links_push}
use Rattle.live_system.proofs.opened_group.open_links.Goals as goal

pub links-preserved : goal.links-preserved
links-preserved g c =
    let links = c.args.links.now in
    let place = c.links.settings-index in
    let settings = c.settings-item.result in
    let so_far = c.links.invariant in
    let longer : take (place + 1) links ≡ take place links ++ settings ∷ [] = take_more links place settings c.links-test.true ∙ ap (λ s. take place links ++ s ∷ []) (sym c.settings-item.is) in
    let end : LinkEnds PartitionEnd = record { vl = c.vl-vl.result; ports = c.in_ok-link.ports } in (
      so_far.0 ++ end ∷ [],
      c.in_ok-push-2.ensures.items ∙ (ap (λ (es : List (LinkEnds PartitionEnd)). es ++ end ∷ []) so_far.1 ∙ append_assoc c.args.ends.now.items so_far.0 (end ∷ [])),
      rw (longer, c.in_ok-push.ensures.items)
          (links_push ShowsPort (reads_by ReadsPort (g.R.Readers.count c.args.readers.now)) (take place links) c.links.opened.items so_far.0 settings c.in_ok-link.link end so_far.2 c.in_ok-link.ensures c.vl-vl.ensures),
    )
