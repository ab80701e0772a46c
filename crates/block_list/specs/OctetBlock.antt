-- What callers see of octets that lie one after another in a block.
use Rattle.std.specs.Prelude.{◌≤◌, ℕ, ◌-◌, List, length, take, drop}
use Rattle.std.specs.List.{All}
use Rattle.block_list.specs.declared.octet_block.Entry.{Entry}
use Rattle.block_list.specs.declared.octet_block.LentOctets.{LentOctets}

-- octets, and when they came, in microseconds
pub record TimedOctets : Type 0 where
  pub time : ℕ
  pub octets : List ℕ

-- its items in order; the number of their octets; the most items, and the most octets, that it has memory for
pub record OctetBlock : Type 0 where
  pub items : List TimedOctets
  pub used : ℕ
  pub most_items : ℕ
  pub most_octets : ℕ

abbrev pub timed_octets : ℕ → List ℕ → TimedOctets
timed_octets time octets = record { time = time; octets = octets }

-- octets as they were lent
abbrev pub octets_as : LentOctets → TimedOctets
octets_as lent = timed_octets lent.time lent.octets.now

-- the octets of an entry
abbrev pub octets_of_entry : List ℕ → Entry → TimedOctets
octets_of_entry block entry = timed_octets entry.time (take (entry.end - entry.start) (drop entry.start block))

abbrev pub AreWithin : List ℕ → List Entry → Type 0
AreWithin block entries = All (λ (e : Entry). (e.start ≤ e.end) × (e.end ≤ length block)) entries
