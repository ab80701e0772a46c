-- Marks of digits, lane by lane.
use Rattle.std.proofs.Common.{◌≡◌, ◌∙◌, ℕ, zero, suc, ◌+◌, ◌-◌, ◌*◌, ◌/◌, ◌%◌, ◌^◌, ◌<◌, ◌≤◌, ◌↔◌, Bool, true, false, cond, eqb, ltb, List, [], ◌∷◌, length, map, get_or, replicate, take, bit_and, Option, None, Some, Fits, w8, refl, ap, sym, arith, eqb-true, eq-eqb, ltb-true, ltb-false}
use Rattle.std.proofs.lemmas.Bool.{agree_below_at}
use Rattle.std.proofs.lemmas.List.{get_or-map, length-map}
use Rattle.std.proofs.lemmas.Simd.{below_from_Fits, bitmask_splat, get_or_wider, map-map, splat_is_map, zip2_of_maps, zip2_splat}
use lib.Lanes.{Each1, digits_l, mask_l, number_l, sel_l, top, zip2}
use Rattle.hex.specs.Hex.{hex_digit_value}
use Rattle.hex.proofs.Pairs.{drop-pair}
use Rattle.hex_trace.specs.Digits.{IsMark, IsMarkFor, AreMarks}

-- what the operations of vectors of octets do to a lane
abbrev plus : ℕ → ℕ → ℕ
plus a b = (a + b) % 256

abbrev less : ℕ → ℕ → ℕ
less a b = (a + (256 - b)) % 256

abbrev below : ℕ → ℕ → ℕ
below a b = cond (ltb a b) 255 0

abbrev larger : ℕ → ℕ → ℕ
larger a b = cond (top 7 (below a b)) b a

-- the larger lanes of two vectors
abbrev larger_l : List ℕ → List ℕ → List ℕ
larger_l xs ys = sel_l (map (top 7) (zip2 below xs ys)) ys xs

-- ---- the mark of a byte

-- as the code computes it
abbrev computed : ℕ → ℕ
computed b = larger (less (larger (plus b 198) 6) 6) (plus (bit_and (less b 1) 223) 186)

is_mark_for : Option ℕ → ℕ → Bool
is_mark_for (Some value) mark = eqb mark (240 + value)
is_mark_for None mark = ltb mark 240

mark_from : (value : Option ℕ) (mark : ℕ) → is_mark_for value mark ≡ true → IsMarkFor value mark
unfolding is_mark_for
mark_from (Some value) mark is = eqb-true mark (240 + value) is
mark_from None mark is = ltb-true mark 240 is

computed_right : (b : ℕ) → b < 256 → IsMark b (computed b)
unfolding is_mark_for
computed_right b fits = mark_from (hex_digit_value b) (computed b) (agree_below_at (λ x. is_mark_for (hex_digit_value x) (computed x)) (λ _. true) 256 b refl fits)

chosen : (p : ℕ → Bool) (f g : ℕ → ℕ) (vs : List ℕ) → sel_l (map p vs) (map f vs) (map g vs) ≡ map (λ v. cond (p v) (f v) (g v)) vs
chosen p f g [] = refl
chosen p f g (v ∷ vs) = ap (λ rest. cond (p v) (f v) (g v) ∷ rest) (chosen p f g vs)

larger_of_maps : (f g : ℕ → ℕ) (vs : List ℕ) {xs ys : List ℕ} → xs ≡ map f vs → ys ≡ map g vs → larger_l xs ys ≡ map (λ v. larger (f v) (g v)) vs
larger_of_maps f g vs first second =
    let tests = ap (map (top 7)) (zip2_of_maps below f g vs first second) ∙ map-map (top 7) (λ v. below (f v) (g v)) vs in
    rw (tests, first, second) (chosen (λ v. top 7 (below (f v) (g v))) g f vs)

abbrev marks_l : List ℕ → List ℕ
marks_l vs =
    larger_l
    (zip2 less (larger_l (zip2 plus vs (replicate 32 198)) (replicate 32 6)) (replicate 32 6))
    (zip2 plus (zip2 bit_and (zip2 less vs (replicate 32 1)) (replicate 32 223)) (replicate 32 186))

marks_are : (vs : List ℕ) → length vs ≡ 32 → marks_l vs ≡ map computed vs
marks_are vs long =
    let splat = λ (y : ℕ). splat_is_map vs 32 y long in
    larger_of_maps _ _ vs
    (zip2_of_maps less _ _ vs (larger_of_maps _ _ vs (zip2_splat plus vs 32 198 long) (splat 6)) (splat 6))
    (zip2_of_maps plus _ _ vs (zip2_of_maps bit_and _ _ vs (zip2_splat less vs 32 1 long) (splat 223)) (splat 186))

pub length-marks : (vs : List ℕ) → length vs ≡ 32 → length (marks_l vs) ≡ 32
length-marks vs long = ap length (marks_are vs long) ∙ length-map vs computed ∙ long

lane_fits : (vs : List ℕ) (i : ℕ) → Each1 (Fits w8) vs → get_or vs i 0 < 256
lane_fits [] i fit = omega arith
lane_fits (v ∷ vs) zero fit = fit.0.fits
lane_fits (v ∷ vs) (suc i) fit = lane_fits vs i fit.1

pub mark_at : (vs : List ℕ) → length vs ≡ 32 → Each1 (Fits w8) vs → (i : ℕ) → i < 32 → IsMark (get_or vs i 0) (get_or (marks_l vs) i 0)
mark_at vs long fit i within =
    rw (marks_are vs long, get_or-map computed vs i 0 0 (omega (arith, long))) (computed_right (get_or vs i 0) (lane_fits vs i fit))

-- ---- all marks

smaller_lane : (x y : ℕ) → (240 ≤ cond (top 7 (below x y)) x y) ↔ ((240 ≤ x) × (240 ≤ y))
smaller_lane x y = by_test (ltb x y) refl
  where
    by_test : (test : Bool) → ltb x y ≡ test → (240 ≤ cond (top 7 (cond test 255 0)) x y) ↔ ((240 ≤ x) × (240 ≤ y))
    by_test true is = (λ many. (many, omega (arith, ltb-true x y is)), λ both. both.0)
    by_test false is = (λ many. (omega (arith, ltb-false x y is), many), λ both. both.1)

smaller_at : (xs ys : List ℕ) (i : ℕ) → i < length xs → i < length ys
    → (240 ≤ get_or (sel_l (map (top 7) (zip2 below xs ys)) xs ys) i 0) ↔ ((240 ≤ get_or xs i 0) × (240 ≤ get_or ys i 0))
smaller_at [] ys i first second = absurd (omega arith)
smaller_at (x ∷ xs) [] i first second = absurd (omega arith)
smaller_at (x ∷ xs) (y ∷ ys) zero first second = smaller_lane x y
smaller_at (x ∷ xs) (y ∷ ys) (suc i) first second = smaller_at xs ys i (omega arith) (omega arith)

pub both_marks : (xs ys : List ℕ) → length xs ≡ 32 → length ys ≡ 32 → AreMarks (sel_l (map (top 7) (zip2 below xs ys)) xs ys) ↔ (AreMarks xs × AreMarks ys)
both_marks xs ys long same =
    let at = λ (i : ℕ) (within : i < 32). smaller_at xs ys i (omega (arith, long)) (omega (arith, same)) in (
      λ all. (λ i within. ((at i within).0 (all i within)).0, λ i within. ((at i within).0 (all i within)).1),
      λ both i within. (at i within).1 (both.0 i within, both.1 i within),
    )

bit_clear : (x : ℕ) (rest : ℕ) → (◌≡◌ {A = ℕ} (cond (ltb x 240) 1 0 + 2 * rest) 0) ↔ ((240 ≤ x) × (◌≡◌ {A = ℕ} rest 0))
bit_clear x rest = by_test (ltb x 240) refl
  where
    by_test : (test : Bool) → ltb x 240 ≡ test → (◌≡◌ {A = ℕ} (cond test 1 0 + 2 * rest) 0) ↔ ((240 ≤ x) × (◌≡◌ {A = ℕ} rest 0))
    by_test true is = (λ none. absurd (omega arith), λ both. absurd (omega (arith, ltb-true x 240 is)))
    by_test false is = (λ none. (omega (arith, ltb-false x 240 is), omega arith), λ both. omega arith)

none_set : (xs : List ℕ) → (mask_l (map (λ x. ltb x 240) xs) ≡ 0) ↔ ((i : ℕ) → i < length xs → 240 ≤ get_or xs i 0)
none_set [] = (λ none i within. absurd (omega arith), λ all. refl)
none_set (x ∷ xs) =
    let rest = none_set xs in
    let one = bit_clear x (mask_l (map (λ y. ltb y 240) xs)) in (
      λ none. (
          let parts = one.0 none in
          elim [ zero ↦ λ within. parts.0 | suc i ↦ λ within. rest.0 parts.1 i (omega arith) ]
          ),
      λ all. one.1 (all 0 (omega arith), rest.1 (λ i within. all (suc i) (omega arith))),
    )

pub marks_tested : (xs : List ℕ) → length xs ≡ 32 → (eqb (mask_l (map (top 7) (zip2 below xs (replicate 32 240))) % 2 ^ 64) 0 ≡ true) ↔ AreMarks xs
marks_tested xs long =
    let mask = bitmask_splat w8 ltb xs 32 240 long (omega arith) in
    let all = none_set xs in (
      λ passed i within. all.0 (sym mask ∙ eqb-true _ _ passed) i (omega (arith, long)),
      λ are. eq-eqb _ _ (mask ∙ all.1 (λ i within. are i (omega (arith, long)))),
    )

-- ---- octets

-- as the code computes it of a pair of marks
abbrev octet_lane : ℕ → ℕ
octet_lane pair = ((pair + pair * 4096 % 65536) % 65536 / 256 + 16) % 256

octet_right : (a b : ℕ) → 240 ≤ a → a < 256 → 240 ≤ b → b < 256 → octet_lane (a + 256 * (b + 256 * 0)) ≡ (a - 240) * 16 + (b - 240)
octet_right a b a_low a_high b_low b_high = omega arith

pair_at : (marks : List ℕ) (i : ℕ) → i < 16 → length marks ≡ 32 → Each1 (Fits w8) marks
    → get_or (digits_l 65536 16 (number_l 256 marks)) i 0 ≡ get_or marks (2 * i) 0 + 256 * (get_or marks (2 * i + 1) 0 + 256 * 0)
pair_at marks i within long fit =
    get_or_wider 256 2 65536 16 marks i refl (below_from_Fits w8 marks fit) within
    ∙ ap (λ (l : List ℕ). number_l 256 (take 2 l)) (drop-pair marks i (omega (arith, long)))

pub octet_at_lane : (marks : List ℕ) → length marks ≡ 32 → Each1 (Fits w8) marks → (i : ℕ) → i < 16 → 240 ≤ get_or marks (2 * i) 0 → 240 ≤ get_or marks (2 * i + 1) 0
    → get_or (map octet_lane (digits_l 65536 16 (number_l 256 marks))) i 0 ≡ (get_or marks (2 * i) 0 - 240) * 16 + (get_or marks (2 * i + 1) 0 - 240)
octet_at_lane marks long fit i within first second =
    get_or-map octet_lane (digits_l 65536 16 (number_l 256 marks)) i 0 0 within
    ∙ ap octet_lane (pair_at marks i within long fit)
    ∙ octet_right (get_or marks (2 * i) 0) (get_or marks (2 * i + 1) 0) first (lane_fits marks (2 * i) fit) second (lane_fits marks (2 * i + 1) fit)
