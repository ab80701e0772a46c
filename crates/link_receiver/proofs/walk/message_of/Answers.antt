use Rattle.std.proofs.Common.{◌≡◌, ◌∙◌, ap, ℕ, List, Option}
use Rattle.std.specs.Option.{option_map, option_to_list}
use Rattle.std.proofs.lemmas.Result.{IfOk-weaker}
use Rattle.es_base.specs.declared.event.Event.{Event}
use Rattle.es_base.specs.declared.event.Message.{Message}
use Rattle.es_base.specs.Past.{arrival_of}
use Rattle.link_rules.specs.Groups.{Group}
use Rattle.link_rules.specs.Reassembly.{groups_in, offered}
use Rattle.link_rules.specs.Outcome.{outcome}
use Rattle.link_rules.specs.Deliveries.{delivered, number_delivered}
use Rattle.frame_reader.specs.Parts.{packet_parts}
use Rattle.ip_reassembly.specs.Kept.{StandsFor}
use Rattle.link_core.specs.Told.{IsLawfulAfter}
use Rattle.link_receiver.specs.Walk.{IsMessageOf}
use Rattle.link_core.proofs.Verdicts.{is_told_forwarded}
use Rattle.link_receiver.proofs.Verdicts.{delivers_it}
use Rattle.link_receiver.proofs.walk.message_of.Goals as goal
use Rattle.es_base.specs.Settings.{Settings}

pub returns-clause-stands : goal.returns-clause-stands
returns-clause-stands c = λ o past lawful stands.
    let e = c.args.event.now in
    let packet = c.packet_of-packet.ensures ∙ ap (λ is. offered is e.frame) (is_told_forwarded o past e lawful) in
    rw packet at (c.offer.ensures.stands o.reassembly (groups_in o past) stands)

pub returns-clause-message : goal.returns-clause-message
returns-clause-message c =
    let e = c.args.event.now in
    let Has : Option Message → Type 0 = λ message. (limit : ℕ) (groups : List Group) → StandsFor c.args.reassembly.now limit groups
    → IsMessageOf c.tells_delivered-delivers.result limit groups (option_map packet_parts c.packet_of-packet.result) e.time message in
    let Delivers : Option Message → Type 0 = λ message. (o : Settings) (past : List Event) → IsLawfulAfter o past e
    → StandsFor c.args.reassembly.now o.reassembly (groups_in o past)
    → option_to_list message ≡ delivered (outcome o past (arrival_of e)) e.room e.time c.args.port (number_delivered o past c.args.port) in
    IfOk-weaker c.offer.result Has Delivers (λ message has o past lawful stands.
    let packet = c.packet_of-packet.ensures ∙ ap (λ is. offered is e.frame) (is_told_forwarded o past e lawful) in
    delivers_it o past e c.args.port message lawful (rw (packet, c.tells_delivered-delivers.ensures) at (has o.reassembly (groups_in o past) stands)))
    c.offer.ensures.message
