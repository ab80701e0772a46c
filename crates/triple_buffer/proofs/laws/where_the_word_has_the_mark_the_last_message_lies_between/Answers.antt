use Rattle.triple_buffer.proofs.Moments.{is_newer, lies_between}
use Rattle.triple_buffer.proofs.laws.where_the_word_has_the_mark_the_last_message_lies_between.Goals as goal

pub returns-clause-whole : goal.returns-clause-whole
returns-clause-whole c longest s published kept are = lies_between longest s published kept are

pub returns-clause-newer : goal.returns-clause-newer
returns-clause-newer c longest seat s published reader kept are = is_newer longest s published kept are seat reader
