-- Redundancy management, over both networks: of the copies that passed integrity checking the first
-- is forwarded (ARINC 664 Part 7, redundancy management; order and table own).
use Rattle.std.specs.Prelude.{Bool, not, ◌&&◌, List, [], ◌∷◌, if◌then◌else◌}
use Rattle.es_base.specs.declared.event.Arrival.{Arrival}
use Rattle.es_base.specs.declared.event.Event.{Event}
use Rattle.es_base.specs.Frame.{sequence_number_of}
use Rattle.es_base.specs.Past.{arrival_of}
use Rattle.link_rules.specs.Integrity.{passes}
pub use Rattle.es_base.specs.Age.{elapsed}
pub use Rattle.link_rules.specs.Copies.{Forwarded, is_ahead, greatest_time, is_first_copy, summary_of}
use Rattle.es_base.specs.Settings.{Settings}

-- ---- the frames of a link

-- whether a frame that passed is redundant, after these were forwarded: never, if redundancy
-- management is off
-- rule: RM-1
abbrev pub is_redundant : Settings → List Forwarded → Arrival → Bool
is_redundant settings earlier a =
    settings.redundancy && not (is_first_copy settings.skew_max earlier (sequence_number_of a.frame) a.time)

-- whether a frame passes and isn't redundant, after these were forwarded
abbrev pub is_forwarded_after : Settings → List Forwarded → List Event → Arrival → Bool
is_forwarded_after settings earlier past a = passes settings past a && not (is_redundant settings earlier a)

-- the frames that were forwarded, the latest first
-- rule: RM-5, RM-6
abbrev pub forwarded : Settings → List Event → List Forwarded
forwarded settings [] = []
forwarded settings (e ∷ past) =
    if is_forwarded_after settings (forwarded settings past) past (arrival_of e)
    then record { sequence_number = sequence_number_of e.frame; time = e.time } ∷ forwarded settings past
    else forwarded settings past

-- whether a frame that comes after this past is forwarded
abbrev pub is_forwarded : Settings → List Event → Arrival → Bool
is_forwarded settings past a = is_forwarded_after settings (forwarded settings past) past a
