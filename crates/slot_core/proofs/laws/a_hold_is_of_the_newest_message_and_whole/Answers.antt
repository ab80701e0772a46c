use Rattle.slot_core.proofs.Interleavings.{hold_is_newest, hold_is_not_written, hold_is_whole}
use Rattle.slot_core.proofs.laws.a_hold_is_of_the_newest_message_and_whole.Goals as goal

pub returns-clause-newest : goal.returns-clause-newest
returns-clause-newest c = λ readers slots state reader word events few hold.
    let newest = hold_is_newest readers slots state reader word events few hold in
    (newest.newest, newest.number)

pub returns-clause-whole : goal.returns-clause-whole
returns-clause-whole c = λ readers slots state reader word events few hold. hold_is_whole readers slots state reader word events few hold

pub returns-clause-unwritten : goal.returns-clause-unwritten
returns-clause-unwritten c = λ readers slots state reader word slot index stored events few hold may.
    hold_is_not_written readers slots state reader word events few hold slot index stored may
