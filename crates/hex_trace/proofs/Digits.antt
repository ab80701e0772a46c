-- The digits of a time.
use Rattle.std.proofs.Common.{◌≡◌, ℕ, ◌^◌, ◌+◌, ◌-◌, ◌*◌, ◌<◌, ◌≤◌, true, false, List, [], ◌∷◌, suc, zero, length, take, take_all, slice_index, Ok, Err, arith, refl, ap, subst, sym, ◌∙◌, ⊎_elim, add-one, add_comm}
use Rattle.std.specs.Char.{is_ascii_digit}
use Rattle.std.specs.List.{prefix_len}
use Rattle.std.specs.Str.{all_ascii_digits}
use Rattle.std.specs.Str.Parse.{digits_value}
use Rattle.std.proofs.lemmas.Bool.{cases_lt, cases_Bool, lt-ltb, le-ltb, and_from}
use Rattle.std.proofs.lemmas.List.{length-take-le}
use Rattle.std.proofs.lemmas.List.Sums.{prefix_len-le-length, prefix_len_passes, prefix_len_stops}
use Rattle.std.specs.Int.{IsInRange}
use Rattle.std.proofs.lemmas.Int.Digits.{digits_value_more}
use Rattle.std.proofs.lemmas.Str.{digit_value_digit}
use Rattle.std.proofs.lemmas.Str.Parse.{IsNumeralModel, digit_at, digits_value-take-le, digits_value_short, numerals_by_value, tells_all_ascii_digits}
use Rattle.hex_trace.specs.declared.fault.TraceCause.TheVariants.{Time}
use Rattle.hex_trace.specs.Line.{time_from}

-- what stands before the first that is no digit are digits
pub digits_first : (bs : List ℕ) → all_ascii_digits (take (prefix_len is_ascii_digit bs) bs) ≡ true
digits_first [] = refl
digits_first (b ∷ bs) =
    ⊎_elim
    (λ (is : is_ascii_digit b ≡ true). rw (is, add_comm 1 (prefix_len is_ascii_digit bs), add-one) (and_from _ _ is (digits_first bs)))
    (λ (is : is_ascii_digit b ≡ false). rw is refl)
    (cases_Bool (is_ascii_digit b))

-- the first of them, too
pub digits_up_to : (bs : List ℕ) (i : ℕ) → i ≤ prefix_len is_ascii_digit bs → all_ascii_digits (take i bs) ≡ true
digits_up_to bs zero within = refl
digits_up_to [] (suc i) within = absurd (omega arith)
digits_up_to (b ∷ bs) (suc i) within =
    ⊎_elim
    (λ (is : is_ascii_digit b ≡ true). (let rest = rw is at within in and_from _ _ is (digits_up_to bs i (omega (arith, rest)))))
    (λ (is : is_ascii_digit b ≡ false). (let rest = rw is at within in absurd (omega (arith, rest))))
    (cases_Bool (is_ascii_digit b))

-- texts of digits, and the number that each says
pub numerals : IsNumeralModel (λ digits. all_ascii_digits digits ≡ true) (digits_value 10)
numerals = numerals_by_value _ tells_all_ascii_digits

-- digits that say no time
pub time_refused : (digits : List ℕ) → ((0 < length digits) × (digits_value 10 digits < 2 ^ 64) → ⊥) → time_from digits ≡ Err Time
time_refused digits refused =
    ⊎_elim
    (λ (some : 0 < length digits). ⊎_elim
    (λ (fits : digits_value 10 digits < 2 ^ 64). absurd (refused (some, fits)))
    (λ (large : 2 ^ 64 ≤ digits_value 10 digits). rw (lt-ltb _ _ some, le-ltb _ _ large) refl)
    (cases_lt (digits_value 10 digits) (2 ^ 64)))
    (λ (none : length digits ≤ 0). rw (le-ltb _ _ none) refl)
    (cases_lt 0 (length digits))

-- digits that say a time
pub time_read : (digits : List ℕ) → 0 < length digits → digits_value 10 digits < 2 ^ 64 → time_from digits ≡ Ok (digits_value 10 digits)
time_read digits some fits = rw (lt-ltb _ _ some, lt-ltb _ _ fits) refl

-- a digit at its place
pub digit_in : (digits : List ℕ) (i : ℕ) → all_ascii_digits digits ≡ true → i < length digits → IsInRange 48 57 (slice_index digits i)
digit_in digits i are within = digit_at digits i (numerals.to digits are) within

-- what one digit more says
pub one_more : (digits : List ℕ) (i : ℕ) → all_ascii_digits digits ≡ true → i < length digits
    → digits_value 10 (take (i + 1) digits) ≡ digits_value 10 (take i digits) * 10 + (slice_index digits i - 48)
one_more digits i are within =
    omega (arith, digits_value_more 10 digits i within, digit_value_digit (slice_index digits i) (digit_in digits i are within))

-- what the first digits say is no more than all of them do
pub value_so_far : (digits : List ℕ) (i : ℕ) → digits_value 10 (take i digits) ≤ digits_value 10 digits
value_so_far digits i = digits_value-take-le 10 digits i (omega arith)

-- if no digit is left
pub all_read : (digits : List ℕ) (i time : ℕ) → length digits ≤ i → 0 < length digits → time < 2 ^ 64 → time ≡ digits_value 10 (take i digits) → Ok time ≡ time_from digits
all_read digits i time end some fits is =
    let value : time ≡ digits_value 10 digits = is ∙ ap (digits_value 10) (take_all i digits end) in
    rw value (sym (time_read digits some (rw (sym value) fits)))

-- ---- the number that a line begins with

-- one digit more stands at the beginning of a line
pub more_digits : (line : List ℕ) (i : ℕ) → i < length line → i ≤ prefix_len is_ascii_digit line → is_ascii_digit (slice_index line i) ≡ true → i + 1 ≤ prefix_len is_ascii_digit line
more_digits line i within so_far is =
    ⊎_elim
    (λ (more : i < prefix_len is_ascii_digit line). omega (arith, more))
    (λ (end : prefix_len is_ascii_digit line ≤ i).
    let same : prefix_len is_ascii_digit line ≡ i = omega arith in
    let stops = prefix_len_stops is_ascii_digit line 0 (omega (arith, same)) in
    cc (sym is ∙ subst (λ k. is_ascii_digit (slice_index line k) ≡ false) same stops))
    (cases_lt i (prefix_len is_ascii_digit line))

-- no digit more
pub no_more_digits : (line : List ℕ) (i : ℕ) → i ≤ prefix_len is_ascii_digit line → is_ascii_digit (slice_index line i) ≡ false → i ≡ prefix_len is_ascii_digit line
no_more_digits line i so_far is =
    ⊎_elim
    (λ (more : i < prefix_len is_ascii_digit line). cc (sym is ∙ prefix_len_passes is_ascii_digit line i 0 more))
    (λ (end : prefix_len is_ascii_digit line ≤ i). omega arith)
    (cases_lt i (prefix_len is_ascii_digit line))

pub digit_range : (b : ℕ) → is_ascii_digit b ≡ true → IsInRange 48 57 b
digit_range b is = digit_at (b ∷ []) 0 (numerals.to (b ∷ []) (and_from _ _ is refl)) (omega arith)

-- what one digit more says, at the beginning of a line
pub number_more : (line : List ℕ) (i : ℕ) → i < length line → is_ascii_digit (slice_index line i) ≡ true
    → digits_value 10 (take (i + 1) line) ≡ digits_value 10 (take i line) * 10 + (slice_index line i - 48)
number_more line i within is = omega (arith, digits_value_more 10 line i within, digit_value_digit (slice_index line i) (digit_range (slice_index line i) is))

-- a short number is small
pub short_number : (line : List ℕ) (i : ℕ) → i ≤ prefix_len is_ascii_digit line → i < 19 → digits_value 10 (take i line) < 10 ^ 18
short_number line i so_far short = digits_value_short numerals (take i line) 18 (digits_up_to line i so_far) (omega (arith, length-take-le i line (omega (arith, so_far, prefix_len-le-length is_ascii_digit line))))
