use Rattle.std.proofs.Common.{◌∙◌, sym}
use Rattle.triple_buffer.proofs.Moments.{looked_all, took_some}
use Rattle.triple_buffer.proofs.laws.a_look_that_finds_no_message_finds_nothing_published.Goals as goal

pub returns-clause-load : goal.returns-clause-load
returns-clause-load c longest s published load before after kept are look low none = sym (looked_all longest s published kept are before after load look low) ∙ none

pub returns-clause-exchange : goal.returns-clause-exchange
returns-clause-exchange c = took_some
