-- What a look at a core shows.
use Rattle.std.specs.Prelude.{◌≡◌, ◌<◌, length}
use Rattle.slot_core.specs.declared.look.WriterPhase.{WriterPhase}
use Rattle.slot_core.specs.declared.look.WriterPhase.TheVariants.{Scanning, Writing}
use Rattle.slot_core.specs.declared.view.WriterView.{WriterView}

-- phase of the writer: it writes if words are stored
abbrev pub IsWriterPhase : WriterPhase → WriterView → Type 0
IsWriterPhase (Scanning scanned) w = (length w.stored ≡ 0) × (scanned.now ≡ w.scanned)
IsWriterPhase (Writing scanned slot stored) w =
    (0 < length w.stored) × (scanned.now ≡ w.scanned) × (slot ≡ w.chosen) × (stored.now ≡ w.stored)
