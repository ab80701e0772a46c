use Rattle.std.proofs.Common.{◌≡◌, ◌∙◌, ap, sym, Ok, Err}
use Rattle.es_base.specs.Packet.{packet_of}
use Rattle.es_base.specs.Past.{arrived}
use Rattle.link_rules.specs.Reassembly.{groups_in, packet_in}
use Rattle.frame_reader.specs.Parts.{packet_parts}
use Rattle.link_core.proofs.Ways.{bad_payload, fault_of_packet, held_payload, payload_of_packet, whole_payload}
use Rattle.link_core.proofs.rules_state.RulesState.payload.Goals as goal
use Rattle.link_core.proofs.rules_state.RulesState.payload.Goals.{in-Bad, in-Held, in-Whole}

pub returns-in-Err-clause-value : goal.returns-in-Err-clause-value
returns-in-Err-clause-value c = λ past net keeps.
    let frame = c.args.frame.now in
    let a = arrived net c.args.now frame.whole.now in
    let fault : packet_in frame.whole.now ≡ Err c.in-Err.fault = sym (ap packet_of frame.inner_is) ∙ c.in-Err.ensures in
    fault_of_packet c.args.settings.now (groups_in c.args.settings.now past) a c.in-Err.fault fault

pub returns-clause-value : goal.returns-clause-value
returns-clause-value c = λ past net keeps.
    let settings = c.args.settings.now in
    let frame = c.args.frame.now in
    let a = arrived net c.args.now frame.whole.now in
    let groups = groups_in settings past in
    let packet = packet_parts c.in-Ok.packet in
    let is : packet_in frame.whole.now ≡ Ok packet = sym (ap packet_of frame.inner_is) ∙ c.in-Ok.ensures in
    let answer = c.preview.ensures settings.reassembly groups keeps.waiting in
    rw (payload_of_packet settings groups a packet is) (elim c.match-preview.branch [
      | in-Bad w ↦ rw w.payload-is (bad_payload settings.ports settings.reassembly groups packet c.args.now (sym w.in-Bad.is ∙ answer))
      | in-Held w ↦ rw w.payload-is (held_payload settings.ports settings.reassembly groups packet c.args.now (sym w.in-Held.is ∙ answer))
      | in-Whole w ↦ rw w.payload-is (whole_payload settings.ports settings.reassembly groups packet c.args.now _ _ _ _ (sym w.in-Whole.is ∙ answer) w.datagram_payload-payload.ensures.value)
    ])
