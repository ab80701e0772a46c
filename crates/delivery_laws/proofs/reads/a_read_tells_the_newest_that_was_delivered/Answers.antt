use Rattle.std.proofs.Common.{◌∙◌}
use Rattle.triple_buffer.proofs.Moments.{looked_all, took_all}
use Rattle.link_core.specs.Counted.{port_no}
use Rattle.mailbox_port.proofs.Newest.{tells_newest}
use Rattle.receiver.specs.Link.{deliveries_of}
use Rattle.delivery_laws.proofs.Sampled.{all_delivered}
use Rattle.delivery_laws.proofs.reads.a_read_tells_the_newest_that_was_delivered.Goals as goal

pub returns-clause-load : goal.returns-clause-load
returns-clause-load c link place longest s load seat after reader later before out answer one look low same =
    tells_newest (deliveries_of link (port_no place)) reader later before out answer
    (same ∙ looked_all longest s one.writer.published one.kept one.published seat after load look low ∙ all_delivered link place longest s one)

pub returns-clause-exchange : goal.returns-clause-exchange
returns-clause-exchange c link place longest found s swap seat after reader later before out answer one took same =
    tells_newest (deliveries_of link (port_no place)) reader later before out answer
    (same ∙ took_all longest s one.writer.published one.kept one.published found seat after swap took ∙ all_delivered link place longest s one)
