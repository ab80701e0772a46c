use Rattle.std.proofs.Common.{refl}
use Rattle.delivery_example.proofs.Traces.{is_past, message_is_written}
use Rattle.delivery_example.proofs.laws.the_player_reports_the_message.Goals as goal

pub returns : goal.returns
returns c = record { past = is_past; ended = refl; written = message_is_written }
