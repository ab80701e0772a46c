-- Copies that meet all that is asked, and copies that meet all but one thing, of which the receiver loses a frame, or
-- forwards one twice. Frames have the sequence number alone. Times are in microseconds.
use Rattle.std.specs.Prelude.{ℕ, ◌*◌, ◌==◌, true, false, List, [], ◌∷◌}
use Rattle.es_base.specs.declared.event.Event.{Event}
use Rattle.es_base.specs.declared.place.Net.{Net}
use Rattle.es_base.specs.declared.place.Net.TheVariants as nets
use Rattle.es_base.specs.declared.verdict.Verdict.TheVariants as verdicts
use Rattle.link_rules.specs.Copies.{Forwarded}
use Rattle.es_base.specs.Settings.{Settings}
use Rattle.frame_delivery.specs.Sending.{Copy, Numbering}
use Rattle.frame_delivery.specs.Network.{Delays, Timing}

-- a link with this SkewMax, and a window of 2
abbrev pub link : ℕ → Settings
link skew_max = record { vl = record { 0 = 17 }; skew_max = skew_max; redundancy = true; reassembly = 50000; window = 2; ports = [] }

-- a copy of a frame: its network, the index and the sequence number of its frame, its time
abbrev pub received : Net → ℕ → ℕ → ℕ → Copy
received net index number time = record { index = index; event = record { net = net; time = time; frame = number ∷ []; room = true; verdict = verdicts.OutOfSequence } }

abbrev pub frame_at : ℕ → ℕ → Forwarded
frame_at number time = record { sequence_number = number; time = time }

-- ---- all is met

-- the first frame has number 254, and the sender doesn't restart
abbrev pub numbering : Numbering
numbering = record { first = 254; restarts = λ index. false }

-- frames that are sent with this gap, the least pause before a restart, the least and the greatest time on the way, and
-- the wait
abbrev pub timed : ℕ → ℕ → ℕ → ℕ → ℕ → Timing
timed gap pause least greatest wait = record { sent = λ index. gap * index; gap = gap; pause = pause; least = least; greatest = greatest; wait = wait }

-- a frame each millisecond, 100 to 900 microseconds on its way
abbrev pub timing : Timing
timing = timed 1000 2000 100 900 100

-- of four frames network A loses the second, and B the third
abbrev pub with_losses : List Copy
with_losses =
    received nets.B 3 2 3900 ∷ received nets.A 3 2 3100 ∷ received nets.A 2 1 2200 ∷ received nets.B 1 255 1500 ∷ received nets.B 0 254 900 ∷ received nets.A 0 254 100 ∷ []

-- A is 100 microseconds on its way, and B 1300
abbrev pub slower_network : List Copy
slower_network = received nets.B 1 2 2300 ∷ received nets.A 2 3 2100 ∷ received nets.B 0 1 1300 ∷ received nets.A 1 2 1100 ∷ received nets.A 0 1 100 ∷ []

-- how long each is on its way
abbrev pub delay_on : Net → ℕ
delay_on nets.A = 100
delay_on nets.B = 1300

abbrev pub slower_on_b : Delays
slower_on_b = record { least = delay_on; greatest = delay_on }

-- B is out for three frames, more than the window, and its next one is out of sequence; A brings each frame
abbrev pub one_network_out : List Copy
one_network_out =
    received nets.B 4 5 4900 ∷ received nets.A 4 5 4100 ∷ received nets.A 3 4 3100 ∷ received nets.A 2 3 2100 ∷ received nets.A 1 2 1100 ∷ received nets.B 0 1 900 ∷ received nets.A 0 1 100 ∷ []

-- two frames of no sender that we know of, one on each network
abbrev pub strange : List Event
strange = (received nets.B 0 50 60).event ∷ (received nets.A 0 200 50).event ∷ []

-- the first frame has number 10, and the sender doesn't restart
abbrev pub from_ten : Numbering
from_ten = record { first = 10; restarts = λ index. false }

-- of three frames after these the first is out of sequence on both networks, and the first copy of the second comes
-- while SkewMax runs, of 1500; and once more a frame of no sender comes, which is out of sequence, and so is B's next
abbrev pub after_strange : List Copy
after_strange =
    received nets.B 2 12 2900 ∷ received nets.B 0 99 2500 ∷ received nets.A 2 12 2100 ∷ received nets.B 1 11 1900 ∷ received nets.A 1 11 1100 ∷ received nets.B 0 10 900 ∷ received nets.A 0 10 100 ∷ []

-- ---- one thing isn't met

-- the first frame has number 1, and the sender doesn't restart
abbrev pub from_one : Numbering
from_one = record { first = 1; restarts = λ index. false }

-- the second copy comes 1 microsecond later than SkewMax after the first
abbrev pub after_skew_max : List Copy
after_skew_max = received nets.B 0 1 1101 ∷ received nets.A 0 1 100 ∷ []

-- B brings three frames, 1100 microseconds on their way; A, which takes 100, loses the second
abbrev pub overtaken : List Copy
overtaken = received nets.B 2 3 3100 ∷ received nets.B 1 2 2100 ∷ received nets.A 2 3 2100 ∷ received nets.B 0 1 1100 ∷ received nets.A 0 1 100 ∷ []

-- each network loses two frames in a row, which is the window
abbrev pub two_lost : List Copy
two_lost = received nets.B 3 4 3900 ∷ received nets.A 3 4 3100 ∷ received nets.B 0 1 900 ∷ received nets.A 0 1 100 ∷ []

-- A is cut off after a frame, and B begins 128 frames later, just before SkewMax is over
abbrev pub far_apart : List Copy
far_apart = received nets.B 128 129 128100 ∷ received nets.A 0 1 100 ∷ []

-- a frame that was forwarded before has a time that is later than those of the copies that come
abbrev pub of_later_time : List Event
of_later_time = (received nets.B 0 50 5000).event ∷ []

-- A brings each frame, and one of another sender passes on B
abbrev pub stranger_passes : List Copy
stranger_passes = received nets.A 1 2 1100 ∷ received nets.B 0 50 200 ∷ received nets.A 0 1 100 ∷ []

-- the sender restarts, 3000 after its frame before
abbrev pub restarted : List Copy
restarted = received nets.A 1 0 3100 ∷ received nets.A 0 57 100 ∷ []

-- the sender restarts after its first frame
abbrev pub from_57 : Numbering
from_57 = record { first = 57; restarts = λ index. index == 1 }

-- it does so just before SkewMax is over
abbrev pub soon_restarted : List Copy
soon_restarted = received nets.A 1 0 1100 ∷ received nets.A 0 57 100 ∷ []

-- B's first frame comes just after A brought one 128 frames later; with a window of 64, so that the list is short
abbrev pub wide_link : Settings
wide_link = record (link 128000) { window = 64 }

abbrev pub far_behind : List Copy
far_behind = received nets.B 0 1 128100 ∷ received nets.A 128 129 128100 ∷ received nets.A 64 65 64100 ∷ received nets.A 0 1 100 ∷ []

-- B's copy of the last frame before a restart is taken after A's of the first after it
abbrev pub behind_a_restart : List Copy
behind_a_restart = received nets.B 0 57 100 ∷ received nets.A 1 0 2100 ∷ received nets.A 0 57 100 ∷ []
