-- What of the copies is to be forwarded: one copy of each frame, in the order of sending.
use Rattle.std.specs.Prelude.{◌≡◌, ℕ, ◌+◌, ◌<◌, ◌≤◌, ◌==◌, Bool, true, false, ◌||◌, nat_lt, max, List, [], ◌∷◌, if◌then◌else◌}
use Rattle.es_base.specs.Frame.{sequence_number_of}
use Rattle.link_rules.specs.Copies.{Forwarded, greatest_time}
use Rattle.frame_delivery.specs.Sending.{Copy, EachCopy, Numbering, RunsOn}

-- ---- copies of later and later frames

-- the index of the latest frame of which a copy came, 0 if none came
abbrev pub greatest_index : List Copy → ℕ
greatest_index [] = 0
greatest_index (copy ∷ before) = max copy.index (greatest_index before)

-- whether a frame is later than each frame of which a copy came before
abbrev pub is_new : ℕ → List Copy → Bool
is_new index [] = true
is_new index (copy ∷ before) = nat_lt (greatest_index (copy ∷ before)) index

-- the copies that were new when they came
-- rule: DELIV-3
abbrev pub new_copies : List Copy → List Copy
new_copies [] = []
new_copies (copy ∷ before) = if is_new copy.index before then copy ∷ new_copies before else new_copies before

-- each is of a later frame than all before it: no frame twice, and all in the order of sending
-- rule: DELIV-3
abbrev pub AreInOrder : List Copy → Type 0
AreInOrder copies = EachCopy (λ before copy. is_new copy.index before ≡ true) copies

-- ---- the first copy of each frame

-- whether a copy of the frame with this index came
abbrev pub has_come : ℕ → List Copy → Bool
has_come index [] = false
has_come index (copy ∷ before) = copy.index == index || has_come index before

-- the copies that were the first of their frame
-- rule: DELIV-6
abbrev pub first_copies : List Copy → List Copy
first_copies [] = []
first_copies (copy ∷ before) = if has_come copy.index before then first_copies before else copy ∷ first_copies before

-- ---- what redundancy management needs of them

-- what redundancy management keeps of some copies that were forwarded
abbrev pub as_forwarded : List Copy → List Forwarded
as_forwarded [] = []
as_forwarded (copy ∷ before) = record { sequence_number = sequence_number_of copy.event.frame; time = copy.event.time } ∷ as_forwarded before

-- the greatest time of the copies that were new when they came
abbrev pub newest_time : List Copy → ℕ
newest_time copies = greatest_time (as_forwarded (new_copies copies))

-- what redundancy management needs of a copy, after others came: if it isn't new, it comes no later than SkewMax
-- after the new ones; and one that comes no later than this is of a frame at most 127 after the latest or before it,
-- with no restart of the sender between the two
-- rule: DELIV-3
pub record IsInTime (numbering : Numbering) (skew_max : ℕ) (before : List Copy) (copy : Copy) : Type 0 where
  pub late : is_new copy.index before ≡ false → copy.event.time ≤ newest_time before + skew_max
  pub after : copy.event.time ≤ newest_time before + skew_max → (copy.index ≤ greatest_index before + 127) × RunsOn numbering (greatest_index before) copy.index
  pub behind : copy.event.time ≤ newest_time before + skew_max → (greatest_index before ≤ copy.index + 127) × RunsOn numbering copy.index (greatest_index before)

abbrev pub ComesInTime : Numbering → ℕ → List Copy → Copy → Type 0
ComesInTime numbering skew_max [] copy = Unit {0}
ComesInTime numbering skew_max (other ∷ before) copy = IsInTime numbering skew_max (other ∷ before) copy

-- a copy that comes after one of a later frame isn't the first of its own
abbrev pub IsNotOvertaken : List Copy → Copy → Type 0
IsNotOvertaken before copy = is_new copy.index before ≡ false → has_come copy.index before ≡ true

-- Of each frame the first copy comes before all copies of later frames. A further copy may come after one of a later
-- frame: it is redundant.
-- rule: DELIV-5, DELIV-17
abbrev pub FirstsInOrder : List Copy → Type 0
FirstsInOrder copies = EachCopy IsNotOvertaken copies

-- each copy of a frame came after a copy of a later frame
-- rule: DELIV-4
abbrev pub IsOvertaken : ℕ → List Copy → Type 0
IsOvertaken index copies = EachCopy (λ before copy. copy.index ≡ index → index < greatest_index before) copies
