-- The copies that come after any past of their link, and which of them are forwarded.
use Rattle.std.specs.Prelude.{◌≤◌, Bool, List, [], ◌∷◌, if◌then◌else◌}
use Rattle.es_base.specs.declared.event.Arrival.{Arrival}
use Rattle.es_base.specs.declared.event.Event.{Event}
use Rattle.es_base.specs.Past.{arrival_of}
use Rattle.link_rules.specs.Integrity.{passes}
use Rattle.link_rules.specs.Redundancy.{is_forwarded}
use Rattle.es_base.specs.Settings.{Settings}
use Rattle.frame_delivery.specs.Sending.{Copy, EachCopy, Numbering, events_since}
use Rattle.frame_delivery.specs.Once.{FirstsInOrder}
use Rattle.frame_delivery.specs.Running.{EachForwarded}
use Rattle.frame_delivery.specs.Network.{BeginNear, ComeTimely, IsNeverLate, Timing}

-- ---- what the receiver makes of them

-- the copies that are forwarded
-- rule: DELIV-6
abbrev pub forwarded_since : Settings → List Event → List Copy → List Copy
forwarded_since settings old [] = []
forwarded_since settings old (copy ∷ before) =
    if is_forwarded settings (events_since before old) (arrival_of copy.event) then copy ∷ forwarded_since settings old before else forwarded_since settings old before

-- whether a copy counts, after those that did: the first if it is forwarded, and then each that passes
abbrev pub counts : Settings → List Event → Arrival → List Copy → Bool
counts settings past a [] = is_forwarded settings past a
counts settings past a (one ∷ some) = passes settings past a

-- the copies that pass integrity checking, from the first on that is forwarded
-- rule: DELIV-5
abbrev pub passing_since : Settings → List Event → List Copy → List Copy
passing_since settings old [] = []
passing_since settings old (copy ∷ before) =
    if counts settings (events_since before old) (arrival_of copy.event) (passing_since settings old before) then copy ∷ passing_since settings old before
    else passing_since settings old before

-- ---- what is asked of those that count

-- none has an earlier time than a frame that was forwarded in the old past
abbrev pub ComeAfter : Settings → List Event → List Copy → Type 0
ComeAfter settings old copies = EachCopy (λ before copy. EachForwarded settings (λ e. e.time ≤ copy.event.time) old) copies

-- The copies that pass, from the first on that is forwarded after an old past, are of a sender's frames: they come at
-- times that fit, none too late, and on networks that begin near each other. Nothing is asked of the old past but that its
-- times aren't later, and nothing of frames that integrity checking refuses.
pub record PassTimely (settings : Settings) (numbering : Numbering) (timing : Timing) (old : List Event) (copies : List Copy) : Type 0 where
  pub timely : ComeTimely settings numbering timing (passing_since settings old copies)
  pub on_time : IsNeverLate timing
  pub near : BeginNear settings.skew_max (passing_since settings old copies)
  pub after : ComeAfter settings old (passing_since settings old copies)

-- and the first of each frame comes in order
pub record PassInOrder (settings : Settings) (numbering : Numbering) (timing : Timing) (old : List Event) (copies : List Copy) : Type 0 where
  pub timely : PassTimely settings numbering timing old copies
  pub firsts : FirstsInOrder (passing_since settings old copies)
