use Rattle.delivery_laws.proofs.Reported.{are_written, is_reported, lines_are, lines_are_offered}
use Rattle.delivery_laws.proofs.player.each_message_is_reported_once.Goals as goal

pub returns : goal.returns
returns c = record { offered = lines_are_offered; lines = lines_are; written = are_written; arrived = is_reported }
