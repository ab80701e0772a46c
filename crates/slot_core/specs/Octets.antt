-- The octets of a message in its words (own).
use Rattle.std.specs.Prelude.{ℕ, ◌+◌, ◌-◌, ◌*◌, ◌/◌, ◌%◌, ◌^◌, ◌<◌, ◌≤◌, List, ◌∷◌, length, map, slice_index}
use Rattle.std.specs.List.{All, range_with_len}
use Rattle.slot_core.specs.Limits.{longest_message}

-- eight octets in one word, the first one most significant
abbrev pub word_of_eight : (ℕ → ℕ) → ℕ
word_of_eight octet =
    ((((((octet 0 * 256 + octet 1) * 256 + octet 2) * 256 + octet 3) * 256 + octet 4) * 256 + octet 5) * 256 + octet 6) * 256 + octet 7

-- the eighth part of the octets at this place, with zeros after their end
abbrev pub word_at : List ℕ → ℕ → ℕ
word_at octets place = word_of_eight (λ i. slice_index octets (8 * place + i))

-- the words of a message with these octets and this time
-- rule: SAMP-3
abbrev pub words_of : List ℕ → ℕ → List ℕ
words_of octets time = length octets ∷ time ∷ map (word_at octets) (range_with_len 0 ((length octets + 7) / 8))

-- the octet at this place of a message with these words
abbrev pub octet_of_words : List ℕ → ℕ → ℕ
octet_of_words words place = slice_index words (2 + place / 8) / 256 ^ (7 - place % 8) % 256

-- octets that a message can have
abbrev pub AreOctets : List ℕ → Type 0
AreOctets octets = (length octets ≤ longest_message) × All (λ octet. octet < 256) octets

-- all octets of a message with these words
abbrev pub octets_of_words : List ℕ → List ℕ
octets_of_words words = map (octet_of_words words) (range_with_len 0 (slice_index words 0))
