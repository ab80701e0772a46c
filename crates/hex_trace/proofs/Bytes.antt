-- What a byte is worth as a digit, byte by byte.
use Rattle.std.proofs.Common.{◌≡◌, ℕ, zero, suc, ◌+◌, ◌%◌, ◌<◌, ◌==◌, Bool, true, ◌&&◌, nat_lt, if◌then◌else◌, bit_or, refl}
use Rattle.std.proofs.lemmas.Bool.Decides.{Decides-below_and, Decides-eqb}
use Rattle.hex_trace.specs.Digits.{digit_value}

-- as the code computes it
abbrev pub computed : ℕ → ℕ
computed b =
    if nat_lt ((b + 208) % 256) 10 then (b + 208) % 256
    else if nat_lt ((bit_or b 32 + 159) % 256) 6 then (bit_or b 32 + 159) % 256 + 10
    else 255

abbrev is_right : ℕ → Bool
is_right b = computed b == digit_value b

are_right : ℕ → Bool
are_right zero = true
are_right (suc n) = is_right n && are_right n

pub right : (b : ℕ) → b < 256 → computed b ≡ digit_value b
unfolding are_right
right = (Decides-below_and is_right (λ b. computed b ≡ digit_value b) are_right (λ b. Decides-eqb (computed b) (digit_value b)) refl (λ _. refl) 256).0 refl
