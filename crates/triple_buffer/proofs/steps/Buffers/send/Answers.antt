use Rattle.std.proofs.Common.{rules}
use Rattle.triple_buffer.proofs.Ends.{may_publish, sent}
use Rattle.triple_buffer.proofs.steps.Buffers.send.Goals as goal

pub swap-found-requires : goal.swap-found-requires
swap-found-requires c = (search rules, search rules, may_publish _ _ _ _ _ c.requires.sends)

pub returns-clause-sent : goal.returns-clause-sent
returns-clause-sent c = (c.requires.sends.own, c.requires.sends.holds, sent _ _ _ _ _ c.requires.sends c.swap-found.ensures.2)
