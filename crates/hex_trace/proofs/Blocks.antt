-- Frames in blocks, one block after another.
use Rattle.std.proofs.Common.{◌≡◌, ◌∙◌, ap, subst, sym, ℕ, suc, ◌+◌, ◌<◌, List, [], ◌∷◌, ◌++◌, length, drop, append-nil, append_assoc, arith, zero, refl, Option, Some, None, option_map, slice_get}
use Rattle.std.specs.List.{slice_index_or}
use Rattle.std.proofs.Math.Seq.{drop-append_seam}
use Rattle.std.proofs.lemmas.List.{length-map}
use Rattle.std.proofs.lemmas.Option.{slice_get-map}
use Rattle.block_list.specs.OctetBlock.{OctetBlock, octets_as}
use Rattle.block_list.specs.declared.octet_block.LentOctets.{LentOctets}
use Rattle.hex_trace.specs.Frames.{TimedFrame, IsInFirst, NoneIsEmpty, frame_of_octets, frames_of_block, joined_blocks, lent_as}

pub joined_append : (blocks : List OctetBlock) (block : OctetBlock) → joined_blocks (blocks ++ block ∷ []) ≡ joined_blocks blocks ++ frames_of_block block
joined_append [] block = append-nil (frames_of_block block)
joined_append (b ∷ bs) block = ap (λ (t : List TimedFrame). frames_of_block b ++ t) (joined_append bs block) ∙ sym (append_assoc (frames_of_block b) (joined_blocks bs) (frames_of_block block))

-- what a block lends is the frame at its place
pub lent_at : (block : OctetBlock) (place : ℕ) (lent : Option LentOctets) → option_map octets_as lent ≡ slice_get block.items place → option_map lent_as lent ≡ slice_get (frames_of_block block) place
lent_at block place None is = ap (option_map frame_of_octets) is ∙ sym (slice_get-map frame_of_octets block.items place)
lent_at block place (Some lent) is = ap (option_map frame_of_octets) is ∙ sym (slice_get-map frame_of_octets block.items place)

later_blocks : (b : OctetBlock) (bs : List OctetBlock) → NoneIsEmpty (b ∷ bs) → NoneIsEmpty bs
later_blocks b bs none = λ k d low. none (suc k) d (omega (arith, low))

-- the first block has a first frame
pub first_is_there : (blocks : List OctetBlock) → NoneIsEmpty blocks → IsInFirst 0 blocks
first_is_there [] none = tt
first_is_there (b ∷ bs) none = none 0 b (omega arith)

pub within_first : (at : ℕ) (blocks : List OctetBlock) (block : OctetBlock) → block ≡ slice_index_or blocks 0 block → 0 < length blocks → IsInFirst at blocks → at < length block.items
within_first at [] block is some inside = absurd (omega (arith, some))
within_first at (b ∷ bs) block is some inside = subst (λ (x : OctetBlock). at < length x.items) (sym is) inside

first_left : (at : ℕ) (frames later : List TimedFrame) → at < length frames → slice_get frames at ≡ slice_get (drop at (frames ++ later)) 0
first_left at [] later low = absurd (omega (arith, low))
first_left zero (frame ∷ frames) later low = refl
first_left (suc at) (frame ∷ frames) later low = first_left at frames later (omega (arith, low))

-- the frame at a place of the first block is the first of those that are left there
pub next_is : (at : ℕ) (blocks : List OctetBlock) (block : OctetBlock) → block ≡ slice_index_or blocks 0 block → 0 < length blocks → IsInFirst at blocks
    → slice_get (frames_of_block block) at ≡ slice_get (drop at (joined_blocks blocks)) 0
next_is at [] block is some inside = absurd (omega (arith, some))
next_is at (b ∷ bs) block is some inside =
    ap (λ (x : OctetBlock). slice_get (frames_of_block x) at) is
    ∙ first_left at (frames_of_block b) (joined_blocks bs) (subst (λ (n : ℕ). at < n) (sym (length-map b.items frame_of_octets)) inside)

-- the first block was left out
pub after_pop : (blocks rest : List OctetBlock) → rest ≡ drop 1 blocks → NoneIsEmpty blocks → NoneIsEmpty rest × IsInFirst 0 rest
after_pop [] rest new none = subst (λ (l : List OctetBlock). NoneIsEmpty l × IsInFirst 0 l) (sym new) (none, tt)
after_pop (b ∷ bs) rest new none =
    let later = later_blocks b bs none in
    subst (λ (l : List OctetBlock). NoneIsEmpty l × IsInFirst 0 l) (sym new) (later, first_is_there bs later)

pub last_of_first : (at : ℕ) (blocks rest : List OctetBlock) (block : OctetBlock) → block ≡ slice_index_or blocks 0 block → 0 < length blocks → at + 1 ≡ length block.items → rest ≡ drop 1 blocks
    → joined_blocks rest ≡ drop (at + 1) (joined_blocks blocks)
last_of_first at [] rest block is some last new = absurd (omega (arith, some))
last_of_first at (b ∷ bs) rest block is some last new =
    ap joined_blocks new ∙ sym (drop-append_seam (frames_of_block b) (joined_blocks bs)) ∙ ap (λ (n : ℕ). drop n (frames_of_block b ++ joined_blocks bs)) (sym (last ∙ ap (λ (x : OctetBlock). length x.items) is ∙ sym (length-map b.items frame_of_octets)))
