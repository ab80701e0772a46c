use Rattle.frame_delivery.proofs.Passing.{passes_again}
use Rattle.frame_delivery.proofs.Main.{row_forwarded, row_passes}
use Rattle.frame_delivery.proofs.laws.one_network_is_enough.Goals as goal

pub returns : goal.returns
returns c = record { passes = row_passes; passes_again = passes_again; brings = row_forwarded }
