use Rattle.std.proofs.Common.{◌≡◌, ◌∙◌, ◌++◌, ap, sym, reverse, List}
use Rattle.std.specs.Prelude.{drop}
use Rattle.std.proofs.Math.Seq.{drop-append_seam}
use Rattle.std.proofs.lemmas.Result.{IfOk-weaker}
use Rattle.es_base.specs.declared.event.Event.{Event}
use Rattle.link_rules.specs.Deliveries.{deliveries, number_delivered}
use Rattle.link_rules.specs.Reassembly.{groups_in}
use Rattle.link_rules.specs.Run.{IsRun}
use Rattle.ip_reassembly.specs.Kept.{StandsFor}
use Rattle.link_receiver.specs.Walk.{AreSince}
use Rattle.link_receiver.specs.Link.{deliveries_since}
use Rattle.link_receiver.proofs.link.LinkState.deliveries.Goals as goal

pub deliveries_after-requires : goal.deliveries_after-requires
deliveries_after-requires c =
    let link = c.args.self.now in
    record { frames = rw (c.settings.ensures, c.history.ensures.events) c.history.ensures.own_frames }

pub returns : goal.returns
returns c =
    let link = c.args.self.now in
    let settings = link.settings in
    let port = c.args.port in
    IfOk-weaker c.deliveries_after.result
    (λ messages. (earlier : List Event) → StandsFor c.pieces_before.result.now settings.reassembly (groups_in settings earlier) → IsRun settings (reverse link.history ++ earlier) → AreSince settings earlier (reverse link.history) port messages.items)
    (λ messages. messages.items ≡ deliveries_since link port)
    (λ messages has.
    let since = has link.before c.pieces_before.ensures c.history.ensures.run in
    sym (ap (drop (number_delivered settings link.before port)) since ∙ drop-append_seam (deliveries settings link.before port) messages.items))
    (rw (c.settings.ensures, c.history.ensures.events) at c.deliveries_after.ensures)
