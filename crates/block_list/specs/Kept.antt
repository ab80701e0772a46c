-- How the blocks make the list.
use Rattle.std.specs.Prelude.{◌≡◌, ◌≤◌, ◌<◌, ◌-◌, ◌*◌, ℕ, nat_lt, min, if◌then◌else◌, List, [], ◌∷◌, ◌++◌, length, map, take, drop}
use Rattle.std.specs.List.{All, flat_map}
use Rattle.std.specs.Vec.{vec_capacity, vec_ptr}
use Rattle.std.specs.declared.vec.Vec.{Vec}
use Rattle.std.specs.declared.alloc.Global.{Global}
use denote.RawPtr.{Ptr}
use Rattle.block_list.specs.BlockList.{block_size}

-- the entries of the blocks before the last, and then those of the last
abbrev pub entries_of : {T : Type 0} → List (Vec T Global) → List T → List T
entries_of full last = flat_map (λ block. block.items) full ++ last

-- the entries of one block, counted from 0; none after the last block
abbrev pub block_at : {T : Type 0} → ℕ → List T → List T
block_at number items = take block_size (drop (number * block_size) items)

-- number of entries that the last block may still take
abbrev pub room_in : {T : Type 0} → Vec T Global → ℕ
room_in last = min (vec_capacity last) block_size - length last.items

-- where the memory of the last block begins, if it has any
abbrev pub address_of : {T : Type 0} → Vec T Global → List Ptr
address_of last = if nat_lt 0 (vec_capacity last) then vec_ptr last ∷ [] else []

-- where the memory of each block begins
abbrev pub addresses_of : {T : Type 0} → List (Vec T Global) → Vec T Global → List Ptr
addresses_of full last = map vec_ptr full ++ address_of last

-- the most blocks that are full
abbrev pub most_blocks : ℕ
most_blocks = 9007199254740991

-- the blocks before the last are full
abbrev pub AreFull : {T : Type 0} → List (Vec T Global) → Type 0
AreFull full = All (λ block. length block.items ≡ block_size) full × (length full ≤ most_blocks)

-- the last block has at most as many entries as a block, and memory for as many, or none
abbrev pub IsLast : {T : Type 0} → Vec T Global → Type 0
IsLast last = (length last.items ≤ block_size) × (vec_capacity last < block_size → vec_capacity last ≡ 0)

abbrev pub IsKept : {T : Type 0} → List (Vec T Global) → Vec T Global → Type 0
IsKept full last = AreFull full × IsLast last
