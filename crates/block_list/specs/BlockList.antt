-- What callers see of a list that is kept in blocks.
use Rattle.std.specs.Prelude.{◌≡◌, ℕ, List, [], ◌∷◌, ◌++◌}
use denote.RawPtr.{Ptr}

-- number of entries of a block
abbrev pub block_size : ℕ
block_size = 1024

-- its entries in order; the number of entries that may be added without taking memory; and the addresses
-- of the blocks, in order: while a block's address stays, its entries stay in place
pub record BlockList (T : Type 0) : Type 0 where
  pub items : List T
  pub room : ℕ
  pub blocks : List Ptr

-- the memory of one more block was taken, and nothing else has changed
abbrev pub Grows : {T : Type 0} → BlockList T → BlockList T → Type 0
Grows old new = (block : Ptr) × (new ≡ record old { room = block_size; blocks = old.blocks ++ block ∷ [] })
