use Rattle.triple_buffer.proofs.Moments.{has_seen_all}
use Rattle.triple_buffer.proofs.laws.where_the_word_has_no_mark_the_reader_has_seen_all.Goals as goal

pub returns : goal.returns
returns c longest seat s published reader kept are = has_seen_all longest s published kept are seat reader
