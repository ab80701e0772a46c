-- The messages that were delivered since, after one more event.
use Rattle.std.proofs.Common.{◌≡◌, ◌∙◌, ap, sym, List, ◌∷◌, ◌++◌, append_assoc}
use Rattle.es_base.specs.declared.event.Event.{Event}
use Rattle.es_base.specs.declared.event.Message.{Message}
use Rattle.es_base.specs.declared.place.PortNo.{PortNo}
use Rattle.es_base.specs.Settings.{Settings}
use Rattle.es_base.specs.Past.{arrival_of}
use Rattle.link_rules.specs.Outcome.{outcome}
use Rattle.link_rules.specs.Deliveries.{delivered, deliveries, number_delivered}
use Rattle.link_receiver.specs.Walk.{AreSince}

pub since_more : (settings : Settings) (earlier past : List Event) (e : Event) (port : PortNo) (so_far last now : List Message) → AreSince settings earlier past port so_far
    → last ≡ delivered (outcome settings (past ++ earlier) (arrival_of e)) e.room e.time port (number_delivered settings (past ++ earlier) port)
    → now ≡ so_far ++ last → AreSince settings earlier (e ∷ past) port now
since_more settings earlier past e port so_far last now since is grown =
    let front = deliveries settings earlier port in
    ap (λ (messages : List Message). messages ++ delivered (outcome settings (past ++ earlier) (arrival_of e)) e.room e.time port (number_delivered settings (past ++ earlier) port)) since
    ∙ append_assoc front so_far _ ∙ ap (λ (more : List Message). front ++ (so_far ++ more)) (sym is) ∙ ap (λ (messages : List Message). front ++ messages) (sym grown)
