-- Integrity checking, on each network: which frames pass (ARINC 664 Part 7, integrity checking; the
-- window is own).
use Rattle.std.specs.Prelude.{ℕ, zero, suc, ◌+◌, ◌==◌, Bool, true, false, ◌||◌, List, [], ◌∷◌, Option, None, Some, if◌then◌else◌}
use Rattle.es_base.specs.declared.place.Net.{Net}
use Rattle.es_base.specs.declared.event.Arrival.{Arrival}
use Rattle.es_base.specs.declared.event.Event.{Event}
use Rattle.es_base.specs.Frame.{sequence_number_of}
use Rattle.es_base.specs.Networks.{is_same_net}
use Rattle.es_base.specs.Settings.{Settings}

-- ---- sequence numbers

-- the next sequence number after n: 1 after 255, since 0 means a sender's reset
-- rule: INT-1
abbrev pub next_number : ℕ → ℕ
next_number n = if n == 255 then 1 else n + 1

-- the latest of some sequence numbers, which are listed the latest first
abbrev pub latest : List ℕ → Option ℕ
latest [] = None
latest (sequence_number ∷ earlier) = Some sequence_number

-- whether a sequence number is among the first `window` that follow n
-- rule: INT-2
abbrev pub is_among_next : ℕ → ℕ → ℕ → Bool
is_among_next zero n sequence_number = false
is_among_next (suc window) n sequence_number = sequence_number == next_number n || is_among_next window (next_number n) sequence_number

-- whether a frame passes after the frame before it on its network, if there was one: its sequence
-- number is a reset, or among the first `window` that follow
-- rule: INT-2
abbrev pub may_follow : ℕ → Option ℕ → ℕ → Bool
may_follow window None sequence_number = true
may_follow window (Some before) sequence_number = sequence_number == 0 || is_among_next window before sequence_number

-- ---- the frames of a link

-- the sequence numbers of the frames on a network, the latest first, whether or not they passed
-- rule: INT-3
abbrev pub sequence_numbers_on : List Event → Net → List ℕ
sequence_numbers_on [] net = []
sequence_numbers_on (e ∷ past) net =
    if is_same_net e.net net then sequence_number_of e.frame ∷ sequence_numbers_on past net else sequence_numbers_on past net

-- whether a frame that comes after this past passes
-- rule: INT-2, INT-3
abbrev pub passes : Settings → List Event → Arrival → Bool
passes settings past a = may_follow settings.window (latest (sequence_numbers_on past a.net)) (sequence_number_of a.frame)
