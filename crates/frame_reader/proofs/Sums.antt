-- The ones' complement sum of a header, by words of four octets.
use Rattle.std.proofs.Common.{◌≡◌, ◌∙◌, ℕ, suc, ◌+◌, ◌*◌, ◌%◌, ◌<◌, ◌≤◌, ◌==◌, List, drop, get_or, slice_index, ⊎_elim, refl, ap, sym, arith}
use Rattle.std.proofs.lemmas.Bool.{cases_lt, lt-ltb, le-ltb, ne_eqb}
use Rattle.std.proofs.lemmas.List.{get_or-drop}
use Rattle.std.proofs.lemmas.Nat.{mod-mul-add}
use Rattle.es_base.specs.Octets.{u16_at, u32_at}
use Rattle.es_base.specs.Packet.{ones_add, ones_sum}

-- ---- words

pub small_word : (octets : List ℕ) (offset : ℕ) → ((i : ℕ) → get_or octets i 0 < 256) → u16_at offset octets < 65536
unfolding u16_at
small_word octets offset small =
    let high : get_or (drop offset octets) 0 0 < 256 = rw (get_or-drop offset octets 0 0) (small (offset + 0)) in
    let low : get_or (drop offset octets) 1 0 < 256 = rw (get_or-drop offset octets 1 0) (small (offset + 1)) in
    omega (arith, high, low)

pub two_words : (octets : List ℕ) (offset : ℕ) → u32_at offset octets ≡ u16_at offset octets * 65536 + u16_at (offset + 2) octets
unfolding u16_at u32_at
two_words octets offset =
    let three : get_or (drop offset octets) 2 0 ≡ get_or (drop (offset + 2) octets) 0 0 =
    get_or-drop offset octets 2 0 ∙ ap (λ i. get_or octets i 0) (omega arith) ∙ sym (get_or-drop (offset + 2) octets 0 0) in
    let four : get_or (drop offset octets) 3 0 ≡ get_or (drop (offset + 2) octets) 1 0 =
    get_or-drop offset octets 3 0 ∙ ap (λ i. get_or octets i 0) (omega arith) ∙ sym (get_or-drop (offset + 2) octets 1 0) in
    omega (arith, three, four)

pub first_word : (octets : List ℕ) → 1 ≤ slice_index octets 0 → 1 ≤ u32_at 0 octets
unfolding u32_at
first_word octets some =
    let first : get_or (drop 0 octets) 0 0 ≡ get_or octets 0 0 = get_or-drop 0 octets 0 0 in
    omega (arith, some, first)

-- ---- sums

-- the ones' complement sum of what has this sum
pub record IsFolded (plain sum : ℕ) : Type 0 where
  pub carries : ℕ
  pub is : plain ≡ sum + carries * 65535
  pub small : sum < 65536
  pub some : 1 ≤ plain → 1 ≤ sum

one_word : (plain sum word : ℕ) → word < 65536 → IsFolded plain sum → IsFolded (plain + word) (ones_add sum word)
one_word plain sum word less folded =
    ⊎_elim
    (λ (within : sum + word < 65536). rw (lt-ltb (sum + word) 65536 within) (record {
      carries = folded.carries;
      is = omega (arith, folded.is);
      small = within;
      some = λ some. ⊎_elim (λ (none : plain < 1). omega arith) (λ (any : 1 ≤ plain). omega (arith, folded.some any)) (cases_lt plain 1);
    }))
    (λ (past : 65536 ≤ sum + word). rw (le-ltb (sum + word) 65536 past) (record {
      carries = folded.carries + 1;
      is = omega (arith, folded.is);
      small = omega (arith, folded.small);
      some = λ some. omega arith;
    }))
    (cases_lt (sum + word) 65536)

word_of_four : (plain sum high low : ℕ) → high < 65536 → low < 65536 → IsFolded plain sum → IsFolded (plain + (high * 65536 + low)) (ones_add (ones_add sum high) low)
word_of_four plain sum high low less fewer folded =
    let both = one_word (plain + high) (ones_add sum high) low fewer (one_word plain sum high less folded) in
    record {
      carries = both.carries + high;
      is = omega (arith, both.is);
      small = both.small;
      some = λ some. both.some (omega arith);
    }

pub no_words : (octets : List ℕ) → IsFolded 0 (ones_sum 0 octets)
unfolding ones_sum
no_words octets = record { carries = 0; is = refl; small = omega arith; some = λ some. some }

pub next_four : (octets : List ℕ) (i plain : ℕ) → ((i : ℕ) → get_or octets i 0 < 256) → IsFolded plain (ones_sum (2 * i) octets)
    → IsFolded (plain + u32_at (4 * i) octets) (ones_sum (2 * (i + 1)) octets)
unfolding ones_sum
next_four octets i plain small folded =
    let more : 2 * (i + 1) ≡ suc (suc (2 * i)) = omega arith in
    let high : 2 * (2 * i) ≡ 4 * i = omega arith in
    let low : 2 * suc (2 * i) ≡ 4 * i + 2 = omega arith in
    rw (more, two_words octets (4 * i), high, low)
    (word_of_four plain (ones_sum (2 * i) octets) (u16_at (4 * i) octets) (u16_at (4 * i + 2) octets) (small_word octets (4 * i) small) (small_word octets (4 * i + 2) small) folded)

-- the sum is 0xffff exactly if the plain sum is a multiple of it
pub is_multiple : (plain sum : ℕ) → IsFolded plain sum → 1 ≤ plain → (plain % 65535 == 0) ≡ (sum == 65535)
is_multiple plain sum folded some =
    let least = folded.some some in
    ⊎_elim
    (λ (less : sum < 65535).
    let remains : plain % 65535 ≡ sum = ap (λ n. n % 65535) (omega (arith, folded.is)) ∙ mod-mul-add folded.carries 65535 sum less in
    rw (remains, ne_eqb sum 0 (λ e. absurd (omega arith)), ne_eqb sum 65535 (λ e. absurd (omega arith))) refl)
    (λ (most : 65535 ≤ sum).
    let full : sum ≡ 65535 = omega (arith, folded.small) in
    let remains : plain % 65535 ≡ 0 = ap (λ n. n % 65535) (omega (arith, folded.is)) ∙ mod-mul-add (folded.carries + 1) 65535 0 (omega arith) in
    rw (remains, full) refl)
    (cases_lt sum 65535)
