-- Full blocks one after another, and then the last block.
use Rattle.std.proofs.Common.{◌≡◌, ◌∙◌, ℕ, zero, suc, ◌+◌, ◌*◌, ◌/◌, ◌%◌, ◌<◌, ◌≤◌, List, [], ◌∷◌, ◌++◌, Option, Some, None, Result, Ok, Err, OnOk, length, take, drop, get_or, slice_get, append_assoc, append-nil, nat_lt, is_some, IfSome, Bor, refl, sym, ap, arith}
use Rattle.std.specs.List.{All, AllByRecursion, flat_map}
use Rattle.std.specs.Option.{option_map}
use Rattle.std.proofs.lemmas.List.{length-append, take_all}
use Rattle.std.proofs.lemmas.List.Elements.{recursion_from_All}
use Rattle.std.proofs.lemmas.Bool.{ltb-true, ltb-false}
use Rattle.std.proofs.lemmas.Option.{slice_get_past, slice_get-get_or}
use Rattle.std.proofs.Math.ListN.{drop_of_length-le}
use Rattle.std.proofs.Math.Seq.{drop-append-add, take-append_seam}
use Rattle.block_list.specs.BlockList.{block_size}
use Rattle.block_list.specs.Kept.{block_at}

module _ {B T : Type 0} (f : B → List T) where
  joined_length : (bs : List B) → AllByRecursion (λ b. length (f b) ≡ 1024) bs → length (flat_map f bs) ≡ length bs * 1024
  joined_length [] all = refl
  joined_length (b ∷ bs) all =
      let rest = joined_length bs all.1 in
      let first : length (f b) ≡ 1024 = all.0 in
      let both = length-append (f b) (flat_map f bs) in
      let many : length (b ∷ bs) ≡ length bs + 1 = omega arith in
      omega arith

  -- how long a list is
  pub whole_length : (bs : List B) (last : List T) → All (λ b. length (f b) ≡ block_size) bs → length (flat_map f bs ++ last) ≡ length bs * block_size + length last
  whole_length bs last all = length-append (flat_map f bs) last ∙ ap (λ n. n + length last) (joined_length bs (recursion_from_All _ bs all))

  -- the last block becomes full, and an empty one follows
  pub one_more_block : (bs : List B) (b : B) → flat_map f (bs ++ b ∷ []) ++ [] ≡ flat_map f bs ++ f b
  one_more_block [] b = append-nil (f b ++ []) ∙ append-nil (f b)
  one_more_block (c ∷ bs) b =
      append_assoc (f c) (flat_map f (bs ++ b ∷ [])) [] ∙ ap (λ xs. f c ++ xs) (one_more_block bs b) ∙ sym (append_assoc (f c) (flat_map f bs) (f b))

  -- no memory has room for more entries than these
  pub few_entries : (bs : List B) (last : List T) → All (λ b. length (f b) ≡ block_size) bs → length bs ≤ 9007199254740991 → length last < block_size → length (flat_map f bs ++ last) < 9223372036854775808
  few_entries bs last all few short = let whole = whole_length bs last all in omega (arith, whole, few, short)

  pub few_before : (bs : List B) (last : List T) → All (λ b. length (f b) ≡ block_size) bs → length bs < 9007199254740991 → length last ≤ block_size → length (flat_map f bs ++ last) < 9223372036854775808
  few_before bs last all few short = let whole = whole_length bs last all in omega (arith, whole, few, short)

  -- what follows the full blocks
  after_full : (bs : List B) (last : List T) (i : ℕ) → All (λ b. length (f b) ≡ block_size) bs → drop (length bs * block_size + i) (flat_map f bs ++ last) ≡ drop i last
  after_full bs last i all =
      ap (λ n. drop (n + i) (flat_map f bs ++ last)) (sym (joined_length bs (recursion_from_All _ bs all))) ∙ drop-append-add (flat_map f bs) last i

  full_block : (bs : List B) (last : List T) (i : ℕ) (b : B) → AllByRecursion (λ b. length (f b) ≡ 1024) bs → i < length bs → take 1024 (drop (i * 1024) (flat_map f bs ++ last)) ≡ f (get_or bs i b)
  full_block [] last i b all within = absurd (omega arith)
  full_block (c ∷ bs) last zero b all within =
      ap (take 1024) (append_assoc (f c) (flat_map f bs) last) ∙ ap (λ n. take n (f c ++ (flat_map f bs ++ last))) (sym all.0) ∙ take-append_seam (f c) (flat_map f bs ++ last)
  full_block (c ∷ bs) last (suc i) b all within =
      let first : length (f c) ≡ 1024 = all.0 in
      let ahead : suc i * 1024 ≡ length (f c) + i * 1024 = omega arith in
      let next : drop (suc i * 1024) (flat_map f (c ∷ bs) ++ last) ≡ drop (i * 1024) (flat_map f bs ++ last) =
      ap (drop (suc i * 1024)) (append_assoc (f c) (flat_map f bs) last) ∙ ap (λ n. drop n (f c ++ (flat_map f bs ++ last))) ahead ∙ drop-append-add (f c) (flat_map f bs ++ last) (i * 1024) in
      ap (take 1024) next ∙ full_block bs last i b all.1 (omega arith)

  -- a full block, by its number
  pub block_of : (bs : List B) (last : List T) (i : ℕ) (b : B) → All (λ b. length (f b) ≡ block_size) bs → i < length bs → block_at i (flat_map f bs ++ last) ≡ f (get_or bs i b)
  block_of bs last i b all within = full_block bs last i b (recursion_from_All _ bs all) within

  -- the last block
  pub last_block : (bs : List B) (last : List T) → All (λ b. length (f b) ≡ block_size) bs → length last ≤ block_size → block_at (length bs) (flat_map f bs ++ last) ≡ last
  last_block bs last all short =
      let same : length bs * block_size + 0 ≡ length bs * block_size = omega arith in
      ap (λ n. take block_size (drop n (flat_map f bs ++ last))) (sym same) ∙ ap (take block_size) (after_full bs last 0 all) ∙ take_all block_size last short

  -- after it
  pub no_block : (bs : List B) (last : List T) (i : ℕ) → All (λ b. length (f b) ≡ block_size) bs → length last ≤ block_size → length bs < i → block_at i (flat_map f bs ++ last) ≡ []
  no_block bs last i all short after =
      let many = whole_length bs last all in
      let far : length (flat_map f bs ++ last) ≤ i * block_size = omega arith in
      ap (take block_size) (drop_of_length-le (flat_map f bs ++ last) far)

get_after : {T : Type 0} (xs : List T) (n i : ℕ) → slice_get (drop n xs) i ≡ slice_get xs (n + i)
get_after [] zero i = refl
get_after [] (suc n) i = refl
get_after (x ∷ xs) zero i = ap (slice_get (x ∷ xs)) (let same : i ≡ 0 + i = omega arith in same)
get_after (x ∷ xs) (suc n) i = get_after xs n i ∙ ap (slice_get (x ∷ xs)) (let same : suc (n + i) ≡ suc n + i = omega arith in same)

get_before : {T : Type 0} (xs : List T) (n i : ℕ) → i < n → slice_get (take n xs) i ≡ slice_get xs i
get_before xs zero i within = absurd (omega arith)
get_before [] (suc n) i within = refl
get_before (x ∷ xs) (suc n) zero within = refl
get_before (x ∷ xs) (suc n) (suc i) within = get_before xs n i (omega arith)

-- an entry in its block
pub in_block : {T : Type 0} (xs : List T) (place : ℕ) → slice_get (block_at (place / block_size) xs) (place % block_size) ≡ slice_get xs place
in_block xs place =
    let low : place % block_size < block_size = omega arith in
    let whole : (place / block_size) * block_size + place % block_size ≡ place = omega arith in
    get_before (drop ((place / block_size) * block_size) xs) block_size (place % block_size) low ∙ get_after xs ((place / block_size) * block_size) (place % block_size) ∙ ap (slice_get xs) whole

-- what `get` of a slice returns
pub got : {T : Type 0} (xs : List T) (i : ℕ) (r : Option (Bor T)) → is_some r ≡ nat_lt i (length xs) → IfSome r (λ x. x.now ≡ get_or xs i x.now) → option_map (λ x. x.now) r ≡ slice_get xs i
got xs i None is value = sym (slice_get_past xs i (ltb-false i (length xs) (sym is)))
got xs i (Some x) is value = sym (slice_get-get_or xs i x.now (ltb-true i (length xs) (sym is)) ∙ ap Some (sym value))

pub on_ok : {A E P : Type 0} (r : Result A E) → P → OnOk r P
on_ok (Ok x) p = p
on_ok (Err e) p = tt

pub on_ok_by : {A E P Q R : Type 0} (r : Result A E) → OnOk r P → OnOk r Q → (P → Q → R) → OnOk r R
on_ok_by (Ok x) p q both = both p q
on_ok_by (Err e) p q both = tt
