-- A count of 64 bits that stops at the greatest.
use Rattle.std.proofs.Common.{◌≡◌, ◌∙◌, ap, sym, arith, ℕ, ◌+◌, ◌-◌, ◌^◌, ◌<◌, ◌≤◌, true, false, List, length, refl, ◌==◌, ⊎_elim}
use Rattle.std.specs.Prelude.{min}
use Rattle.std.proofs.Math.Nat.{add-zero, min-eq_left, min-eq_right}
use Rattle.std.proofs.lemmas.Bool.{cases_lt}
use Rattle.link_rules.specs.Groups.{Group}
use Rattle.es_base.specs.Limits.{most_partials}
use Rattle.es_base.specs.Tally.{one_more}
use Rattle.ip_reassembly.specs.declared.partial.Partial.{Partial}
use Rattle.ip_reassembly.specs.GivenUp.{one_for_room, shown}
use Rattle.ip_reassembly.specs.Kept.{StandFor}
use Rattle.ip_reassembly.proofs.Stands.{stand_length}

pub min_again : (n most : ℕ) → min (min n most + 1) most ≡ min (n + 1) most
min_again n most =
    ⊎_elim
    (λ (below : n < most).
    let as_is : min n most ≡ n = min-eq_left (omega (arith, below)) in
    rw as_is refl)
    (λ (past : most ≤ n).
    let stopped : min n most ≡ most = min-eq_right past in
    let again : min (most + 1) most ≡ most = min-eq_right (omega arith) in
    let later : min (n + 1) most ≡ most = min-eq_right (omega (arith, past)) in
    rw stopped (again ∙ sym later))
    (cases_lt n most)

pub shows_one_more : (old new n : ℕ) → new ≡ one_more old → old ≡ shown n → new ≡ shown (n + 1)
shows_one_more old new n more shows = more ∙ ap one_more shows ∙ min_again n (2 ^ 64 - 1)

-- ---- one for room, or none

pub shows_room_left : (ss : List Partial) (gs : List Group) (old n : ℕ) → StandFor ss gs → (length ss == most_partials) ≡ false → old ≡ shown n → old ≡ shown (n + one_for_room gs)
shows_room_left ss gs old n stand room shows =
    let same : (length gs == most_partials) ≡ false = rw (stand_length ss gs stand) at room in
    rw (same, add-zero) shows

pub shows_room_made : (ss : List Partial) (gs : List Group) (old new n : ℕ) → StandFor ss gs → (length ss == most_partials) ≡ true → new ≡ one_more old → old ≡ shown n
    → new ≡ shown (n + one_for_room gs)
shows_room_made ss gs old new n stand full more shows =
    let same : (length gs == most_partials) ≡ true = rw (stand_length ss gs stand) at full in
    rw same (shows_one_more old new n more shows)
