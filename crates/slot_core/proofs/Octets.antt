-- The words of a message have its octets.
use Rattle.std.proofs.Common.{◌≡◌, ℕ, zero, suc, ◌+◌, ◌-◌, ◌*◌, ◌/◌, ◌%◌, ◌^◌, ◌<◌, ◌≤◌, List, length, get_or, map, refl, sym, ap, ◌∙◌, arith, lit<, ⊎_elim}
use Rattle.std.specs.List.{range_with_len}
use Rattle.std.proofs.lemmas.Bool.{cases_lt}
use Rattle.std.proofs.lemmas.List.{get_or_default, get_or_past, same_lists}
use Rattle.std.proofs.lemmas.List.Elements.{All-from_get_or}
use Rattle.std.proofs.lemmas.List.FromFn.{get_or-map-range_with_len, length-map-range_with_len}
use Rattle.slot_core.specs.Message.{octets_after_end, IsMessage, IsPadded}
use Rattle.slot_core.specs.Octets.{AreOctets, octet_of_words, octets_of_words, word_at, word_of_eight, words_of}
use Rattle.slot_core.proofs.Messages.{no_octets_before}

module _ (f : ℕ → ℕ) (small : (i : ℕ) → f i < 256) where
  -- the octet at a place of a word
  pub octet_of_eight : (i : ℕ) → i < 8 → word_of_eight f / 256 ^ (7 - i) % 256 ≡ f i
  octet_of_eight zero h = omega (arith, small 0, small 1, small 2, small 3, small 4, small 5, small 6, small 7)
  octet_of_eight (suc zero) h = omega (arith, small 1, small 2, small 3, small 4, small 5, small 6, small 7)
  octet_of_eight (suc (suc zero)) h = omega (arith, small 2, small 3, small 4, small 5, small 6, small 7)
  octet_of_eight (suc (suc (suc zero))) h = omega (arith, small 3, small 4, small 5, small 6, small 7)
  octet_of_eight (suc (suc (suc (suc zero)))) h = omega (arith, small 4, small 5, small 6, small 7)
  octet_of_eight (suc (suc (suc (suc (suc zero))))) h = omega (arith, small 5, small 6, small 7)
  octet_of_eight (suc (suc (suc (suc (suc (suc zero)))))) h = omega (arith, small 6, small 7)
  octet_of_eight (suc (suc (suc (suc (suc (suc (suc zero))))))) h = omega (arith, small 7)
  octet_of_eight (suc (suc (suc (suc (suc (suc (suc (suc i)))))))) h = absurd (omega (arith, h))

  -- zeros at the end of a word
  pub zeros_at_end : (n : ℕ) → n < 8 → ((i : ℕ) → i < 8 → 8 ≤ i + n → f i ≡ 0) → word_of_eight f % 256 ^ n ≡ 0
  zeros_at_end zero h zeros = omega arith
  zeros_at_end (suc zero) h zeros = omega (arith, zeros 7 (omega arith) (omega arith))
  zeros_at_end (suc (suc zero)) h zeros = omega (arith, zeros 6 (omega arith) (omega arith), zeros 7 (omega arith) (omega arith))
  zeros_at_end (suc (suc (suc zero))) h zeros = omega (arith, zeros 5 (omega arith) (omega arith), zeros 6 (omega arith) (omega arith), zeros 7 (omega arith) (omega arith))
  zeros_at_end (suc (suc (suc (suc zero)))) h zeros = omega (arith, zeros 4 (omega arith) (omega arith), zeros 5 (omega arith) (omega arith), zeros 6 (omega arith) (omega arith), zeros 7 (omega arith) (omega arith))
  zeros_at_end (suc (suc (suc (suc (suc zero))))) h zeros =
      omega (arith, zeros 3 (omega arith) (omega arith), zeros 4 (omega arith) (omega arith), zeros 5 (omega arith) (omega arith), zeros 6 (omega arith) (omega arith), zeros 7 (omega arith) (omega arith))
  zeros_at_end (suc (suc (suc (suc (suc (suc zero)))))) h zeros =
      omega (arith, zeros 2 (omega arith) (omega arith), zeros 3 (omega arith) (omega arith), zeros 4 (omega arith) (omega arith), zeros 5 (omega arith) (omega arith), zeros 6 (omega arith) (omega arith), zeros 7 (omega arith) (omega arith))
  zeros_at_end (suc (suc (suc (suc (suc (suc (suc zero))))))) h zeros =
      omega (arith, zeros 1 (omega arith) (omega arith), zeros 2 (omega arith) (omega arith), zeros 3 (omega arith) (omega arith), zeros 4 (omega arith) (omega arith), zeros 5 (omega arith) (omega arith), zeros 6 (omega arith) (omega arith), zeros 7 (omega arith) (omega arith))
  zeros_at_end (suc (suc (suc (suc (suc (suc (suc (suc n)))))))) h zeros = absurd (omega (arith, h))

module _ (octets : List ℕ) (time : ℕ) (are : AreOctets octets) where
  abbrev n : ℕ
  n = (length octets + 7) / 8

  small : (i : ℕ) → get_or octets i 0 < 256
  small i = ⊎_elim (λ (low : i < length octets). are.1 i 0 low) (λ (high : length octets ≤ i). rw (get_or_past octets i 0 high) (lit< tt)) (cases_lt i (length octets))

  word_is : (place : ℕ) → place < n → get_or (words_of octets time) (2 + place) 0 ≡ word_at octets place
  word_is place h =
      let e : 2 + place ≡ suc (suc place) = omega arith in
      rw e (get_or-map-range_with_len (word_at octets) 0 n place place 0 h (omega arith))

  pub octet_is : (i : ℕ) → i < length octets → octet_of_words (words_of octets time) i ≡ get_or octets i 0
  octet_is i h =
      let place = i / 8 in
      let f : ℕ → ℕ = λ j. get_or octets (8 * place + j) 0 in
      let word = word_is place (omega (arith, h)) in
      let at : 8 * place + i % 8 ≡ i = omega arith in
      rw word (octet_of_eight f (λ j. small (8 * place + j)) (i % 8) (omega arith) ∙ ap (λ k. get_or octets k 0) at)

  padded_at : (place : ℕ) → place < n → IsPadded (length octets) (2 + place) (word_at octets place)
  padded_at place h =
      let f : ℕ → ℕ = λ j. get_or octets (8 * place + j) 0 in
      let after = octets_after_end (length octets) (2 + place) in
      zeros_at_end f (λ j. small (8 * place + j)) after (omega (arith, h)) (λ j low late. get_or_past octets (8 * place + j) 0 (omega (arith, low, late)))

  padded : (i : ℕ) → i < length (words_of octets time) → IsPadded (length octets) i (get_or (words_of octets time) i 0)
  padded zero h = no_octets_before (length octets) (length octets)
  padded (suc zero) h =
      let e : octets_after_end (length octets) 1 ≡ 0 = omega arith in
      rw e (omega arith)
  padded (suc (suc place)) h =
      let size : length (map (word_at octets) (range_with_len 0 n)) ≡ n = length-map-range_with_len (word_at octets) 0 n in
      let low : place < n = omega (arith, size, h) in
      let e : suc (suc place) ≡ 2 + place = omega arith in
      rw (get_or-map-range_with_len (word_at octets) 0 n place place 0 low (omega arith), e) (padded_at place low)

  pub words_are_message : IsMessage (words_of octets time)
  words_are_message =
      let size : length (map (word_at octets) (range_with_len 0 n)) ≡ n = length-map-range_with_len (word_at octets) 0 n in
      record {
        start = record { one = omega arith; short = are.0; within = omega (arith, size); padded = padded };
        whole = omega (arith, size);
      }

-- no two messages have the same words
pub same_message : (octets others : List ℕ) (time another : ℕ) → AreOctets octets → AreOctets others → words_of octets time ≡ words_of others another
    → (octets ≡ others) × (time ≡ another)
same_message octets others time another are are' e =
    let size : length octets ≡ length others = ap (λ (ws : List ℕ). get_or ws 0 0) e in (
      same_lists octets others size (λ i d h.
          let one = octet_is octets time are i h in
          let two = octet_is others another are' i (omega (arith, size, h)) in
          let at_zero : get_or octets i 0 ≡ get_or others i 0 = sym one ∙ ap (λ (ws : List ℕ). octet_of_words ws i) e ∙ two in
          get_or_default octets i d 0 h ∙ at_zero ∙ get_or_default others i 0 d (omega (arith, size, h))),
      ap (λ (ws : List ℕ). get_or ws 1 0) e,
    )

-- ---- the octets of given words

module _ (w : ℕ) (low : w < 2 ^ 64) (f : ℕ → ℕ) where
  -- the octets of a word that has zeros at its end give the word again
  pub word_of_octets : (n : ℕ) → n < 8 → w % 256 ^ n ≡ 0 → ((i : ℕ) → i + n < 8 → f i ≡ w / 256 ^ (7 - i) % 256) → ((i : ℕ) → i < 8 → 8 ≤ i + n → f i ≡ 0)
      → word_of_eight f ≡ w
  word_of_octets zero h zeros there gone =
      let part0 : w / 256 ^ 0 ≡ 256 * (w / 256 ^ 1) + w / 256 ^ 0 % 256 = omega arith in
      let part1 : w / 256 ^ 1 ≡ 256 * (w / 256 ^ 2) + w / 256 ^ 1 % 256 = omega arith in
      let part2 : w / 256 ^ 2 ≡ 256 * (w / 256 ^ 3) + w / 256 ^ 2 % 256 = omega arith in
      let part3 : w / 256 ^ 3 ≡ 256 * (w / 256 ^ 4) + w / 256 ^ 3 % 256 = omega arith in
      let part4 : w / 256 ^ 4 ≡ 256 * (w / 256 ^ 5) + w / 256 ^ 4 % 256 = omega arith in
      let part5 : w / 256 ^ 5 ≡ 256 * (w / 256 ^ 6) + w / 256 ^ 5 % 256 = omega arith in
      let part6 : w / 256 ^ 6 ≡ 256 * (w / 256 ^ 7) + w / 256 ^ 6 % 256 = omega arith in
      let top : w / 256 ^ 7 % 256 ≡ w / 256 ^ 7 = omega (arith, low) in
      let whole : w ≡ 256 ^ 0 * (w / 256 ^ 0) = omega (arith, zeros) in
      omega (arith, top, whole, there 0 (omega arith), there 1 (omega arith), there 2 (omega arith), there 3 (omega arith), there 4 (omega arith), there 5 (omega arith), there 6 (omega arith), there 7 (omega arith))
  word_of_octets (suc zero) h zeros there gone =
      let part1 : w / 256 ^ 1 ≡ 256 * (w / 256 ^ 2) + w / 256 ^ 1 % 256 = omega arith in
      let part2 : w / 256 ^ 2 ≡ 256 * (w / 256 ^ 3) + w / 256 ^ 2 % 256 = omega arith in
      let part3 : w / 256 ^ 3 ≡ 256 * (w / 256 ^ 4) + w / 256 ^ 3 % 256 = omega arith in
      let part4 : w / 256 ^ 4 ≡ 256 * (w / 256 ^ 5) + w / 256 ^ 4 % 256 = omega arith in
      let part5 : w / 256 ^ 5 ≡ 256 * (w / 256 ^ 6) + w / 256 ^ 5 % 256 = omega arith in
      let part6 : w / 256 ^ 6 ≡ 256 * (w / 256 ^ 7) + w / 256 ^ 6 % 256 = omega arith in
      let top : w / 256 ^ 7 % 256 ≡ w / 256 ^ 7 = omega (arith, low) in
      let whole : w ≡ 256 ^ 1 * (w / 256 ^ 1) = omega (arith, zeros) in
      omega (arith, top, whole, there 0 (omega arith), there 1 (omega arith), there 2 (omega arith), there 3 (omega arith), there 4 (omega arith), there 5 (omega arith), there 6 (omega arith), gone 7 (omega arith) (omega arith))
  word_of_octets (suc (suc zero)) h zeros there gone =
      let part2 : w / 256 ^ 2 ≡ 256 * (w / 256 ^ 3) + w / 256 ^ 2 % 256 = omega arith in
      let part3 : w / 256 ^ 3 ≡ 256 * (w / 256 ^ 4) + w / 256 ^ 3 % 256 = omega arith in
      let part4 : w / 256 ^ 4 ≡ 256 * (w / 256 ^ 5) + w / 256 ^ 4 % 256 = omega arith in
      let part5 : w / 256 ^ 5 ≡ 256 * (w / 256 ^ 6) + w / 256 ^ 5 % 256 = omega arith in
      let part6 : w / 256 ^ 6 ≡ 256 * (w / 256 ^ 7) + w / 256 ^ 6 % 256 = omega arith in
      let top : w / 256 ^ 7 % 256 ≡ w / 256 ^ 7 = omega (arith, low) in
      let whole : w ≡ 256 ^ 2 * (w / 256 ^ 2) = omega (arith, zeros) in
      omega (arith, top, whole, there 0 (omega arith), there 1 (omega arith), there 2 (omega arith), there 3 (omega arith), there 4 (omega arith), there 5 (omega arith), gone 6 (omega arith) (omega arith), gone 7 (omega arith) (omega arith))
  word_of_octets (suc (suc (suc zero))) h zeros there gone =
      let part3 : w / 256 ^ 3 ≡ 256 * (w / 256 ^ 4) + w / 256 ^ 3 % 256 = omega arith in
      let part4 : w / 256 ^ 4 ≡ 256 * (w / 256 ^ 5) + w / 256 ^ 4 % 256 = omega arith in
      let part5 : w / 256 ^ 5 ≡ 256 * (w / 256 ^ 6) + w / 256 ^ 5 % 256 = omega arith in
      let part6 : w / 256 ^ 6 ≡ 256 * (w / 256 ^ 7) + w / 256 ^ 6 % 256 = omega arith in
      let top : w / 256 ^ 7 % 256 ≡ w / 256 ^ 7 = omega (arith, low) in
      let whole : w ≡ 256 ^ 3 * (w / 256 ^ 3) = omega (arith, zeros) in
      omega (arith, top, whole, there 0 (omega arith), there 1 (omega arith), there 2 (omega arith), there 3 (omega arith), there 4 (omega arith), gone 5 (omega arith) (omega arith), gone 6 (omega arith) (omega arith), gone 7 (omega arith) (omega arith))
  word_of_octets (suc (suc (suc (suc zero)))) h zeros there gone =
      let part4 : w / 256 ^ 4 ≡ 256 * (w / 256 ^ 5) + w / 256 ^ 4 % 256 = omega arith in
      let part5 : w / 256 ^ 5 ≡ 256 * (w / 256 ^ 6) + w / 256 ^ 5 % 256 = omega arith in
      let part6 : w / 256 ^ 6 ≡ 256 * (w / 256 ^ 7) + w / 256 ^ 6 % 256 = omega arith in
      let top : w / 256 ^ 7 % 256 ≡ w / 256 ^ 7 = omega (arith, low) in
      let whole : w ≡ 256 ^ 4 * (w / 256 ^ 4) = omega (arith, zeros) in
      omega (arith, top, whole, there 0 (omega arith), there 1 (omega arith), there 2 (omega arith), there 3 (omega arith), gone 4 (omega arith) (omega arith), gone 5 (omega arith) (omega arith), gone 6 (omega arith) (omega arith), gone 7 (omega arith) (omega arith))
  word_of_octets (suc (suc (suc (suc (suc zero))))) h zeros there gone =
      let part5 : w / 256 ^ 5 ≡ 256 * (w / 256 ^ 6) + w / 256 ^ 5 % 256 = omega arith in
      let part6 : w / 256 ^ 6 ≡ 256 * (w / 256 ^ 7) + w / 256 ^ 6 % 256 = omega arith in
      let top : w / 256 ^ 7 % 256 ≡ w / 256 ^ 7 = omega (arith, low) in
      let whole : w ≡ 256 ^ 5 * (w / 256 ^ 5) = omega (arith, zeros) in
      omega (arith, top, whole, there 0 (omega arith), there 1 (omega arith), there 2 (omega arith), gone 3 (omega arith) (omega arith), gone 4 (omega arith) (omega arith), gone 5 (omega arith) (omega arith), gone 6 (omega arith) (omega arith), gone 7 (omega arith) (omega arith))
  word_of_octets (suc (suc (suc (suc (suc (suc zero)))))) h zeros there gone =
      let part6 : w / 256 ^ 6 ≡ 256 * (w / 256 ^ 7) + w / 256 ^ 6 % 256 = omega arith in
      let top : w / 256 ^ 7 % 256 ≡ w / 256 ^ 7 = omega (arith, low) in
      let whole : w ≡ 256 ^ 6 * (w / 256 ^ 6) = omega (arith, zeros) in
      omega (arith, top, whole, there 0 (omega arith), there 1 (omega arith), gone 2 (omega arith) (omega arith), gone 3 (omega arith) (omega arith), gone 4 (omega arith) (omega arith), gone 5 (omega arith) (omega arith), gone 6 (omega arith) (omega arith), gone 7 (omega arith) (omega arith))
  word_of_octets (suc (suc (suc (suc (suc (suc (suc zero))))))) h zeros there gone =
      let top : w / 256 ^ 7 % 256 ≡ w / 256 ^ 7 = omega (arith, low) in
      let whole : w ≡ 256 ^ 7 * (w / 256 ^ 7) = omega (arith, zeros) in
      omega (arith, top, whole, there 0 (omega arith), gone 1 (omega arith) (omega arith), gone 2 (omega arith) (omega arith), gone 3 (omega arith) (omega arith), gone 4 (omega arith) (omega arith), gone 5 (omega arith) (omega arith), gone 6 (omega arith) (omega arith), gone 7 (omega arith) (omega arith))
  word_of_octets (suc (suc (suc (suc (suc (suc (suc (suc n)))))))) h zeros there gone = absurd (omega (arith, h))

module _ (words : List ℕ) (message : IsMessage words) (low : (i : ℕ) → get_or words i 0 < 2 ^ 64) where
  abbrev len : ℕ
  len = get_or words 0 0

  abbrev octets : List ℕ
  octets = octets_of_words words

  size : length octets ≡ len
  size = length-map-range_with_len (octet_of_words words) 0 len

  pub octets_are : AreOctets octets
  octets_are = (
    omega (arith, size, message.start.short),
    All-from_get_or (λ octet. octet < 256) octets 0 (λ i h.
        let e : get_or octets i 0 ≡ octet_of_words words i = get_or-map-range_with_len (octet_of_words words) 0 len i i 0 (omega (arith, size, h)) (omega arith) in
        omega (arith, e)),
  )

  -- the eighth part of the octets at a place is the word there
  word_again : (place : ℕ) → 2 + place < length words → word_at octets place ≡ get_or words (2 + place) 0
  word_again place h =
      let after = octets_after_end len (2 + place) in
      let w = get_or words (2 + place) 0 in
      word_of_octets w (low (2 + place)) (λ i. get_or octets (8 * place + i) 0) after (omega (arith, h, message.whole)) (message.start.padded (2 + place) h)
      (λ i inside.
      let e : get_or octets (8 * place + i) 0 ≡ octet_of_words words (8 * place + i) =
      get_or-map-range_with_len (octet_of_words words) 0 len (8 * place + i) (8 * place + i) 0 (omega (arith, inside, h, message.whole)) (omega arith) in
      let row : (8 * place + i) / 8 ≡ place = omega (arith, inside) in
      let column : (8 * place + i) % 8 ≡ i = omega (arith, inside) in
      e ∙ rw (row, column) refl)
      (λ i below late. get_or_past octets (8 * place + i) 0 (omega (arith, size, below, late)))

  pub words_again : words_of octets (get_or words 1 0) ≡ words
  words_again =
      let n = (length octets + 7) / 8 in
      let parts : length (map (word_at octets) (range_with_len 0 n)) ≡ n = length-map-range_with_len (word_at octets) 0 n in
      same_lists (words_of octets (get_or words 1 0)) words (omega (arith, parts, size, message.whole)) (at parts)
    where
      at : length (map (word_at octets) (range_with_len 0 ((length octets + 7) / 8))) ≡ (length octets + 7) / 8
          → (i : ℕ) (d : ℕ) → i < length (words_of octets (get_or words 1 0)) → get_or (words_of octets (get_or words 1 0)) i d ≡ get_or words i d
      at parts zero d h = size ∙ get_or_default words 0 0 d message.start.one
      at parts (suc zero) d h = get_or_default words 1 0 d (omega (arith, message.whole))
      at parts (suc (suc place)) d h =
          let inside : place < (length octets + 7) / 8 = omega (arith, parts, h) in
          let e : suc (suc place) ≡ 2 + place = omega arith in
          let there : 2 + place < length words = omega (arith, inside, size, message.whole) in
          get_or-map-range_with_len (word_at octets) 0 ((length octets + 7) / 8) place place d inside (omega arith)
          ∙ word_again place there ∙ rw e (get_or_default words (2 + place) 0 d there)
