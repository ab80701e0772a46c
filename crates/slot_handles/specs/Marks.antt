-- The mark of the kind of a slot, the first word of its room (own).
use Rattle.std.specs.Prelude.{ℕ, ◌==◌, Bool, if◌then◌else◌}
use Rattle.receiver_slots.specs.Codes.{not_made}

abbrev pub receiver_mark : ℕ
receiver_mark = 6827877403514372097

abbrev pub reader_mark : ℕ
reader_mark = 6827877403514372098

abbrev pub taker_mark : ℕ
taker_mark = 6827877403514372099

abbrev pub system_mark : ℕ
system_mark = 6827877403514372100

abbrev pub pass_mark : ℕ
pass_mark = 6827877403514372101

-- the mark of no kind: of what is said to stand in the room of a handle that has none
abbrev pub no_mark : ℕ
no_mark = 0

-- a slot with this mark is of this kind
-- rule: EMB-14
abbrev pub is_made : ℕ → ℕ → Bool
is_made kind mark = mark == kind

-- what a call answers that would answer `code` of a slot of its kind: the room may have another mark
-- rule: EMB-14
abbrev pub if_made : ℕ → ℕ → ℕ → ℕ
if_made kind mark code = if is_made kind mark then code else not_made

-- what is in a slot after a call that leaves `new` in one of its kind: in another room all is as it was
-- rule: EMB-24
abbrev pub after_close : {A : Type 0} → ℕ → ℕ → A → A → A
after_close kind mark new old = if is_made kind mark then new else old
