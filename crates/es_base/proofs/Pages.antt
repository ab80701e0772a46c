-- The pages of the places of links.
use Rattle.std.proofs.Common.{◌≡◌, ◌≢◌, ◌∙◌, ℕ, zero, suc, ◌+◌, ◌-◌, ◌/◌, ◌<◌, ◌≤◌, max, List, [], ◌∷◌, ◌++◌, length, length-append, get_or, set, replicate, Some, ⊎_elim, refl, sym, ap, arith}
use Rattle.std.specs.List.{slice_get}
use Rattle.std.proofs.lemmas.Bool.{cases_eq, cases_lt}
use Rattle.std.proofs.lemmas.List.{length-set, length-replicate, get_or-set_same, get_or-set_other}
use Rattle.es_base.specs.Places.{page_of, entry_of, pages_in, pages_below, ArePages, HasPlace, HasPage}
use Rattle.es_base.proofs.Elements.{slice_get-set_other}

-- ---- how many there are

below_at_most : (places : List ℕ) (n : ℕ) → pages_below places n ≤ n
unfolding pages_below
below_at_most places zero = omega arith
below_at_most places (suc n) = omega (arith, below_at_most places n)

-- the directory and 256 pages
pub at_most : (places : List ℕ) → ArePages places → length places ≤ 65792
at_most places pages = omega (arith, below_at_most places 256, pages.whole, pages.counted)

same_below : (old new : List ℕ) (n : ℕ) → ((a : ℕ) → a < n → page_of new a ≡ page_of old a) → pages_below new n ≡ pages_below old n
unfolding pages_below
same_below old new zero same = refl
same_below old new (suc n) same = rw (same n (omega arith), same_below old new n (λ a h. same a (omega arith))) refl

one_more : (old new : List ℕ) (upper n : ℕ) → upper < n → page_of old upper ≡ 0 → 0 < page_of new upper
    → ((a : ℕ) → a < n → a ≢ upper → page_of new a ≡ page_of old a) → pages_below new n ≡ pages_below old n + 1
unfolding pages_below
one_more old new upper zero h none some same = absurd (omega arith)
one_more old new upper (suc n) h none some same =
    ⊎_elim
    (λ (before : upper < n).
    let rest = one_more old new upper n before none some (λ a below other. same a (omega arith) other) in
    let here = same n (omega arith) (λ (e : n ≡ upper). absurd (omega arith)) in
    omega (arith, rest, here))
    (λ (past : n ≤ upper).
    let is : upper ≡ n = omega arith in
    let rest = same_below old new n (λ a below. same a (omega arith) (λ (e : a ≡ upper). absurd (omega arith))) in
    let none_here : page_of old n ≡ 0 = rw is at none in
    let some_here : 0 < page_of new n = rw is at some in
    omega (arith, rest))
    (cases_lt upper n)

-- ---- the same pages, behind which something changed

pub same_pages : (old new : List ℕ) → length new ≡ length old → ((a : ℕ) → a < 256 → page_of new a ≡ page_of old a) → ArePages old → ArePages new
same_pages old new long same pages = record {
  whole = rw long pages.whole;
  counted = same_below old new 256 same ∙ pages.counted ∙ ap (λ n. n / 256 - 1) (sym long);
  within = λ upper h. rw (same upper h, long) (pages.within upper h);
  apart = λ a b below_a below_b some is. pages.apart a b below_a below_b (rw (same a below_a) at some) (sym (same a below_a) ∙ is ∙ same b below_b);
}

-- ---- one page more

nothing_at : (n a : ℕ) → ◌≡◌ {A = ℕ} (get_or (replicate n 0) a 0) 0
nothing_at zero a = refl
nothing_at (suc n) zero = refl
nothing_at (suc n) (suc a) = nothing_at n a

zeros_after : (places : List ℕ) (n a : ℕ) → get_or (places ++ replicate n 0) a 0 ≡ get_or places a 0
zeros_after [] n a = nothing_at n a
zeros_after (page ∷ places) n zero = refl
zeros_after (page ∷ places) n (suc a) = zeros_after places n a

before : (xs ys : List ℕ) (i x : ℕ) → slice_get xs i ≡ Some x → slice_get (xs ++ ys) i ≡ Some x
before [] ys i x is = cc
before (y ∷ xs) ys zero x is = is
before (y ∷ xs) ys (suc i) x is = before xs ys i x is

made : List ℕ → ℕ → ℕ → ℕ → List ℕ
made places upper more page = set (places ++ replicate more 0) upper page

module _ (places : List ℕ) (upper end more : ℕ) (pages : ArePages places) (octet : upper < 256) (none : page_of places upper ≡ 0)
    (ends : end ≡ max (length places) 256) (long : length places + more ≡ end + 256) where
  new_length : length (made places upper more (end / 256)) ≡ end + 256
  unfolding made
  new_length = simp (length-set, length-append, length-replicate) (omega arith)

  at_upper : page_of (made places upper more (end / 256)) upper ≡ end / 256
  unfolding made
  at_upper = get_or-set_same (places ++ replicate more 0) upper (end / 256) 0 (simp (length-append, length-replicate) (omega arith))

  at_other : (a : ℕ) → a ≢ upper → page_of (made places upper more (end / 256)) a ≡ page_of places a
  unfolding made
  at_other a other = get_or-set_other (places ++ replicate more 0) upper a (end / 256) 0 other ∙ zeros_after places more a

  apart_from : (a : ℕ) → a < 256 → page_of places a ≡ end / 256 → ⊥
  apart_from a h is = omega (arith, pages.within a h, pages.whole)

  new_within : (a : ℕ) → a < 256 → page_of (made places upper more (end / 256)) a ≤ pages_in (made places upper more (end / 256))
  new_within a h =
      ⊎_elim
      (λ (is : a ≡ upper). rw (is, at_upper, new_length) (omega arith))
      (λ (other : a ≢ upper). rw (at_other a other, new_length) (omega (arith, pages.within a h)))
      (cases_eq a upper)

  new_apart : (a b : ℕ) → a < 256 → b < 256 → 0 < page_of (made places upper more (end / 256)) a
      → page_of (made places upper more (end / 256)) a ≡ page_of (made places upper more (end / 256)) b → a ≡ b
  new_apart a b below_a below_b some same =
      ⊎_elim
      (λ (is_a : a ≡ upper).
      ⊎_elim
      (λ (is_b : b ≡ upper). is_a ∙ sym is_b)
      (λ (other_b : b ≢ upper). absurd (apart_from b below_b (sym (at_other b other_b) ∙ sym same ∙ rw is_a at_upper)))
      (cases_eq b upper))
      (λ (other_a : a ≢ upper).
      ⊎_elim
      (λ (is_b : b ≡ upper). absurd (apart_from a below_a (sym (at_other a other_a) ∙ same ∙ rw is_b at_upper)))
      (λ (other_b : b ≢ upper). pages.apart a b below_a below_b (rw (at_other a other_a) at some) (sym (at_other a other_a) ∙ same ∙ at_other b other_b))
      (cases_eq b upper))
      (cases_eq a upper)

  pages_made : ArePages (made places upper more (end / 256))
  pages_made =
      let new = made places upper more (end / 256) in
      let counted = one_more places new upper 256 octet none (rw at_upper (omega arith)) (λ a h other. at_other a other) in
      record {
        whole = omega (arith, new_length, pages.whole);
        counted = omega (arith, counted, pages.counted, new_length, pages.whole);
        within = new_within;
        apart = new_apart;
      }

  place_kept : (vl place : ℕ) → HasPlace places vl place → HasPlace (made places upper more (end / 256)) vl place
  unfolding made
  place_kept vl place has =
      let other : vl / 256 ≢ upper = λ is. let e = rw (is, none) at has.page in absurd (omega arith) in
      let page = at_other (vl / 256) other in
      let entry = entry_of (page_of places (vl / 256)) vl in
      let aside = slice_get-set_other (places ++ replicate more 0) upper entry (end / 256) (λ (is : entry ≡ upper). absurd (omega (arith, has.page))) in
      record {
        number = has.number;
        page = rw page has.page;
        entry = rw page (aside ∙ before places (replicate more 0) entry place has.entry);
      }

  pub page_made : HasPage places (set (places ++ replicate more 0) upper (end / 256)) upper (end / 256)
  unfolding made
  page_made = record { pages = pages_made; is = sym at_upper; some = omega arith; same = place_kept }
