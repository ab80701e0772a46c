use Rattle.receiver.proofs.HandedOut.{handed_out}
use Rattle.test_receiver.proofs.meetings.opened.Goals as goal

pub returns : goal.returns
returns g c = handed_out (λ _. c.most.result) c.config-config.result c.expect.result.receiver c.expect.result.ends.items (rw c.expect.ensures at c.open.ensures)
