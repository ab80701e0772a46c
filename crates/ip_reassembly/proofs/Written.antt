-- One piece more, in a buffer and in the list of the pieces.
use Rattle.std.proofs.Common.{◌≡◌, ◌∙◌, sym, ℕ, ◌+◌, ◌-◌, ◌<◌, ◌≤◌, ⊎_elim, Bool, true, false, List, [], ◌∷◌, ◌++◌, length, take, drop, replicate, Option, None, Some, IsSome, refl, arith, slice_index, slice_index_or, if◌then◌else◌}
use Rattle.std.specs.Option.{option_map, option_or}
use Rattle.std.proofs.lemmas.Bool.{cases_lt, lt-ltb, le-ltb, le-leb, lt-leb}
use Rattle.std.proofs.lemmas.Option.{cond_some, same_Some}
use Rattle.std.proofs.lemmas.Grind.{common_steps, elements}
use Rattle.link_rules.specs.Fragments.{Piece, end_of, octet_in, octet_at, total_of, datagram_from}
use Rattle.ip_reassembly.specs.Held.{Held, HoldsPieces, held_at, written_at}
use Rattle.ip_reassembly.specs.Covering.{AreCovered}
use Rattle.ip_reassembly.proofs.Datagrams.{octet_before, octet_inside, octet_past, all_there, one_missing, datagram_each}

-- ---- no piece

pub nothing_held : (octets : List ℕ) (n : ℕ) → HoldsPieces (record { total = None; octets = octets; marks = replicate n false }) []
nothing_held octets n = record {
  total_is = refl;
  octets_are = λ i.
      let off : slice_index_or (replicate n false) i false ≡ false = grind (arith, common_steps) in
      rw off refl;
}

-- ---- whether they complete the datagram

unmarked : (held : Held) (i : ℕ) → slice_index_or held.marks i false ≡ false → held_at held i ≡ None
unmarked held i off = rw off refl

marked : (held : Held) (i : ℕ) → slice_index_or held.marks i false ≡ true → held_at held i ≡ Some (slice_index held.octets i)
marked held i on = rw on refl

or_some : (a b : Option ℕ) (x : ℕ) → b ≡ Some x → IsSome (option_or a b)
or_some None b x is = rw is refl
or_some (Some y) b x is = refl

covered : (held : Held) (pieces : List Piece) (p : Piece) (total : ℕ) → HoldsPieces held pieces → AreCovered held.marks p.offset (end_of p) total true
    → (i : ℕ) → i < total → IsSome (octet_at (p ∷ pieces) i)
covered held pieces p total holds all i less =
    ⊎_elim
    (λ on. or_some (octet_in p i) (octet_at pieces i) (slice_index held.octets i) (holds.octets_are i ∙ marked held i on))
    (λ inside. rw (octet_inside p i inside.0 inside.1) refl)
    (all i less)

missing : (held : Held) (pieces : List Piece) (p : Piece) (total : ℕ) → HoldsPieces held pieces → (gap : AreCovered held.marks p.offset (end_of p) total false)
    → octet_at (p ∷ pieces) gap.0 ≡ None
missing held pieces p total holds (i, less, off, outside) =
    ⊎_elim
    (λ before. rw (octet_before p i before, holds.octets_are i, unmarked held i off) refl)
    (λ past. rw (octet_past p i past, holds.octets_are i, unmarked held i off) refl)
    outside

-- where the datagram ends after a piece
pub total_is : (held : Held) (pieces : List Piece) (p : Piece) → HoldsPieces held pieces → total_of (p ∷ pieces) ≡ (if p.more then held.total else Some (end_of p))
total_is held pieces p holds = rw (holds.total_is) refl

length_if : (held : Held) (pieces : List Piece) (p : Piece) (total : ℕ) (all : Bool) → HoldsPieces held pieces → (if p.more then held.total else Some (end_of p)) ≡ Some total
    → AreCovered held.marks p.offset (end_of p) total all → (if all then Some total else None) ≡ option_map length (datagram_from (p ∷ pieces))
length_if held pieces p total true holds end all =
    rw (total_is held pieces p holds ∙ end) (sym (all_there total (p ∷ pieces) (covered held pieces p total holds all)))
length_if held pieces p total false holds end gap =
    rw (total_is held pieces p holds ∙ end) (rw (one_missing total (p ∷ pieces) gap.0 gap.1 (missing held pieces p total holds gap)) refl)

-- the length of the datagram that a piece completes, if it does
pub joined_length : (held : Held) (pieces : List Piece) (p : Piece) (more : Bool) (offset len total : ℕ) (all : Bool) → HoldsPieces held pieces
    → p.more ≡ more → p.offset ≡ offset → length p.octets ≡ len → (if more then held.total else Some (offset + len)) ≡ Some total
    → AreCovered held.marks offset (offset + len) total all → (if all then Some total else None) ≡ option_map length (datagram_from (p ∷ pieces))
joined_length held pieces p more offset len total all holds m o l end cover =
    length_if held pieces p total all holds (rw (← m, ← o, ← l) at end) (rw (← o, ← l) at cover)

-- ---- one piece more

written_before : (octets : List ℕ) (offset : ℕ) (piece : List ℕ) (i : ℕ) → i < offset → written_at octets offset piece i ≡ slice_index octets i
written_before octets offset piece i less = rw (lt-leb offset i less) refl

written_inside : (octets : List ℕ) (offset : ℕ) (piece : List ℕ) (i : ℕ) → offset ≤ i → i < offset + length piece → written_at octets offset piece i ≡ slice_index piece (i - offset)
written_inside octets offset piece i above less = rw (le-leb offset i above, lt-ltb i (offset + length piece) less) refl

written_past : (octets : List ℕ) (offset : ℕ) (piece : List ℕ) (i : ℕ) → offset + length piece ≤ i → written_at octets offset piece i ≡ slice_index octets i
written_past octets offset piece i past = rw (le-leb offset i (omega arith), le-ltb i (offset + length piece) past) refl

-- a piece in a buffer
abbrev pub with_piece : Held → Piece → List ℕ → List Bool → Held
with_piece held p octets marks = record { total = if p.more then held.total else Some (end_of p); octets = octets; marks = marks }

same_place : (old new : Held) (i : ℕ) → slice_index_or new.marks i false ≡ slice_index_or old.marks i false → slice_index new.octets i ≡ slice_index old.octets i → held_at new i ≡ held_at old i
same_place old new i mark octet = rw (mark, octet) refl

pub holds_one_more : (held : Held) (pieces : List Piece) (p : Piece) (octets : List ℕ) (marks : List Bool) → HoldsPieces held pieces → end_of p ≤ length held.marks
    → ((i : ℕ) → slice_index octets i ≡ written_at held.octets p.offset p.octets i)
    → marks ≡ take p.offset held.marks ++ (replicate (end_of p - p.offset) true ++ drop (end_of p) held.marks)
    → HoldsPieces (with_piece held p octets marks) (p ∷ pieces)
holds_one_more held pieces p octets marks holds within places are = record {
  total_is = total_is held pieces p holds;
  octets_are = λ i.
      ⊎_elim
      (λ (before : i < p.offset).
      let mark : slice_index_or marks i false ≡ slice_index_or held.marks i false = rw are (grind (arith, common_steps)) in
      let octet = places i ∙ written_before held.octets p.offset p.octets i before in
      rw (octet_before p i before) (holds.octets_are i ∙ sym (same_place held (with_piece held p octets marks) i mark octet)))
      (λ (above : p.offset ≤ i).
      ⊎_elim
      (λ (inside : i < end_of p).
      let mark : slice_index_or marks i false ≡ true = rw are (grind (arith, common_steps)) in
      let octet = places i ∙ written_inside held.octets p.offset p.octets i above inside in
      rw (octet_inside p i above inside, mark, octet) refl)
      (λ (past : end_of p ≤ i).
      let mark : slice_index_or marks i false ≡ slice_index_or held.marks i false = rw are (grind (arith, common_steps)) in
      let octet = places i ∙ written_past held.octets p.offset p.octets i past in
      rw (octet_past p i past) (holds.octets_are i ∙ sym (same_place held (with_piece held p octets marks) i mark octet)))
      (cases_lt i (end_of p)))
      (cases_lt i p.offset);
}

-- ---- the datagram in a buffer

held_octet : (held : Held) (i x : ℕ) → held_at held i ≡ Some x → slice_index held.octets i ≡ x
held_octet held i x at = (cond_some _ _ _ at).1

pub read_octets : (held : Held) (pieces : List Piece) (d : List ℕ) (len : ℕ) → len ≤ length held.octets → HoldsPieces held pieces → datagram_from pieces ≡ Some d → length d ≡ len
    → take len held.octets ≡ d
read_octets held pieces d len within holds made long =
    let same : length (take len held.octets) ≡ length d = grind (arith, common_steps) in
    let each : (i : ℕ) → i < length d → slice_index held.octets i ≡ slice_index d i = λ i less. held_octet held i (slice_index d i) (sym (holds.octets_are i) ∙ datagram_each pieces d made i less) in
    grind (arith, elements)

-- the octet of a datagram that a piece completes
pub read_with : (held : Held) (pieces : List Piece) (p : Piece) (d : List ℕ) (i : ℕ) → HoldsPieces held pieces → datagram_from (p ∷ pieces) ≡ Some d → i < length d
    → written_at held.octets p.offset p.octets i ≡ slice_index d i
read_with held pieces p d i holds made less =
    let there = datagram_each (p ∷ pieces) d made i less in
    ⊎_elim
    (λ (before : i < p.offset).
    written_before held.octets p.offset p.octets i before ∙ held_octet held i (slice_index d i) (sym (holds.octets_are i) ∙ rw (octet_before p i before) at there))
    (λ (above : p.offset ≤ i).
    ⊎_elim
    (λ (inside : i < end_of p).
    written_inside held.octets p.offset p.octets i above inside ∙ same_Some _ _ (rw (octet_inside p i above inside) at there))
    (λ (past : end_of p ≤ i).
    written_past held.octets p.offset p.octets i past ∙ held_octet held i (slice_index d i) (sym (holds.octets_are i) ∙ rw (octet_past p i past) at there))
    (cases_lt i (end_of p)))
    (cases_lt i p.offset)
