use Rattle.std.proofs.Common.{◌∙◌}
use Rattle.triple_buffer.proofs.Moments.{looked_all, took_all}
use Rattle.mailbox_port.proofs.Newest.{tells_newest}
use Rattle.mailbox_port.proofs.laws.a_read_tells_the_newest_message_of_one_moment.Goals as goal

pub returns-clause-load : goal.returns-clause-load
returns-clause-load c longest s published load seat after reader later before out answer kept are look low same =
    tells_newest published reader later before out answer (same ∙ looked_all longest s published kept are seat after load look low)

pub returns-clause-exchange : goal.returns-clause-exchange
returns-clause-exchange c longest found s published swap seat after reader later before out answer kept are took same =
    tells_newest published reader later before out answer (same ∙ took_all longest s published kept are found seat after swap took)
