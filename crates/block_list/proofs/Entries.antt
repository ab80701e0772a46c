-- Octets that lie one after another in a block.
use Rattle.std.proofs.Common.{◌≡◌, ◌∙◌, ap₂, refl, ℕ, suc, ◌+◌, ◌-◌, ◌≤◌, List, [], ◌∷◌, ◌++◌, length, map, take, drop, arith, length-drop}
use Rattle.std.proofs.lemmas.List.{take-append-le, take_all, drop-append-le, map-append}
use Rattle.std.proofs.Math.Seq.{drop-append_seam}
use Rattle.block_list.specs.declared.octet_block.Entry.{Entry}
use Rattle.block_list.specs.OctetBlock.{AreWithin, octets_of_entry, timed_octets}

-- a part of a block stays as the block grows
part_stays : (block more : List ℕ) (start end : ℕ) → start ≤ end → end ≤ length block → take (end - start) (drop start (block ++ more)) ≡ take (end - start) (drop start block)
part_stays block more start end low high = grind (arith, take-append-le, drop-append-le, length-drop)

entries_stay : (block more : List ℕ) (entries : List Entry) → AreWithin block entries → map (octets_of_entry (block ++ more)) entries ≡ map (octets_of_entry block) entries
entries_stay block more [] within = refl
entries_stay block more (entry ∷ entries) within =
    let first = within 0 entry (omega arith) in
    let others : AreWithin block entries = λ k d low. within (suc k) d (omega (arith, low)) in
    ap₂ (λ octets others. timed_octets entry.time octets ∷ others) (part_stays block more entry.start entry.end first.0 first.1) (entries_stay block more entries others)

-- one entry more
pub one_more : (block more : List ℕ) (entries : List Entry) (entry : Entry) → AreWithin block entries → entry.start ≡ length block → entry.end ≡ length block + length more
    → map (octets_of_entry (block ++ more)) (entries ++ entry ∷ []) ≡ map (octets_of_entry block) entries ++ timed_octets entry.time more ∷ []
one_more block more entries entry within start end =
    let last = take_all (entry.end - length block) more (omega (arith, end)) in
    map-append (octets_of_entry (block ++ more)) entries (entry ∷ [])
    ∙ ap₂ (λ xs octets. xs ++ timed_octets entry.time octets ∷ []) (entries_stay block more entries within) (rw (start, drop-append_seam block more) last)
