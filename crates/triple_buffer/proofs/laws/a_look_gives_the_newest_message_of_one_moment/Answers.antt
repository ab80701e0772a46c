use Rattle.triple_buffer.proofs.Moments.{looked_all, took_all}
use Rattle.triple_buffer.proofs.laws.a_look_gives_the_newest_message_of_one_moment.Goals as goal

pub returns-clause-load : goal.returns-clause-load
returns-clause-load c longest s published load before after kept are = looked_all longest s published kept are before after load

pub returns-clause-exchange : goal.returns-clause-exchange
returns-clause-exchange c longest found s published swap before after kept are = took_all longest s published kept are found before after swap
