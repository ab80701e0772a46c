use Rattle.std.proofs.Common.{rules, Some}
use Rattle.triple_buffer.proofs.Ends.{may_take, received, there}
use Rattle.triple_buffer.proofs.steps.Buffers.receive.Goals as goal

pub swap-found-requires : goal.swap-found-requires
swap-found-requires c = (search rules, search rules, may_take _ _ _ _ _ _ _ c.requires.newer c.exchange.ensures.3)

pub exchange-requires-2 : goal.exchange-requires-2
exchange-requires-2 c = let t = c.swap-found.ensures.2 in (search rules, (Some t.1, there _ _ _ t.3))

pub returns-clause-received : goal.returns-clause-received
returns-clause-received c = received _ _ _ _ _ _ _ _ _ c.requires.newer c.exchange.ensures.3 c.swap-found.ensures.2 c.exchange-2.ensures.2 c.exchange-2.ensures.3
