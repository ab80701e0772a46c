-- Keys of tables, and the first table with a key that isn't its own, from the next table on.
use Rattle.std.proofs.Common.{◌≡◌, ◌∙◌, ap, sym, ℕ, ◌+◌, ◌<◌, Bool, true, false, not, cond, ◌||◌, nat_lt, List, [], ◌∷◌, ◌++◌, length, get_or, drop, take, take_all, map, Option, Some, None, String, Global, string_bytes, unwrap_or, ltb-false, refl, arith, inl, inr}
use Rattle.std.proofs.lemmas.Bool.{cases_Bool}
use Rattle.std.proofs.lemmas.List.{drop_more}
use Rattle.std.proofs.lemmas.List.Folds.{list_any-append}
use Rattle.std.specs.List.{list_any, position, position_or_len, prefix_len, take_while}
use Rattle.std.specs.Map.{keys_of}
use Rattle.std.specs.Option.{option_or}
use Rattle.std.specs.Str.{bytes_eq}
use Rattle.toml.specs.Data.{Members}
use Rattle.toml.specs.View.{members_view}
use Rattle.toml.specs.declared.value.Value.{Value}
use Rattle.vl_config.specs.Fault.{key_name}
use Rattle.vl_config.specs.declared.document.keys.Level.{Level}
use Rattle.vl_config.specs.declared.document.place.FaultPlace.{FaultPlace}
use Rattle.vl_config.specs.Keys.{is_own, level_at, read_keys, tool_keys}
use Rattle.vl_config.specs.Stray.{first_stray, has_stray, keys_in, placed_link, placed_links}

-- ---- keys

-- the keys of a map of members
pub any_key : (test : List ℕ → Bool) (entries : List (String Global × Value)) → list_any (λ key. test (string_bytes key)) (keys_of entries) ≡ list_any test (keys_in (members_view entries))
any_key test [] = refl
any_key test (entry ∷ entries) = ap (λ rest. test (string_bytes entry.0) || rest) (any_key test entries)

pub any_mapped : {X Y : Type 0} (test : Y → Bool) (seen : X → Y) (xs : List X) → list_any test (map seen xs) ≡ list_any (λ x. test (seen x)) xs
any_mapped test seen [] = refl
any_mapped test seen (x ∷ xs) = ap (λ rest. test (seen x) || rest) (any_mapped test seen xs)

-- a table's own keys are of two kinds
pub of_two_kinds : (level : Level) (name : List ℕ)
    → is_own level name ≡ (list_any (λ key. bytes_eq name (key_name key)) (read_keys level) || list_any (bytes_eq name) (tool_keys level))
of_two_kinds level name =
    list_any-append (bytes_eq name) (map key_name (read_keys level)) (tool_keys level)
    ∙ ap (λ read. read || list_any (bytes_eq name) (tool_keys level)) (any_mapped (bytes_eq name) key_name (read_keys level))

-- ---- a word

prefix_twice_not : {X : Type 0} (passes : X → Bool) (xs : List X) → position_or_len (λ x. not (passes x)) xs ≡ prefix_len passes xs
prefix_twice_not passes [] = refl
prefix_twice_not passes (x ∷ xs) =
    elim (cases_Bool (passes x)) [
      | inl one ↦ rw (one, prefix_twice_not passes xs) refl
      | inr none ↦ rw none refl
    ]

taken_to : {X : Type 0} (xs : List X) (n : ℕ) (within : Bool) → nat_lt n (length xs) ≡ within → take (unwrap_or (cond within (Some n) None) (length xs)) xs ≡ take n xs
taken_to xs n true is = refl
taken_to xs n false is = take_all (length xs) xs (omega arith) ∙ sym (take_all n xs (ltb-false n (length xs) is))

-- what stands before the first that doesn't pass
pub word_before : {X : Type 0} (passes : X → Bool) (xs : List X) → take (unwrap_or (position (λ x. not (passes x)) xs) (length xs)) xs ≡ take_while passes xs
word_before passes xs =
    taken_to xs (position_or_len (λ x. not (passes x)) xs) _ refl
    ∙ ap (λ n. take n xs) (prefix_twice_not passes xs)

-- ---- tables

first_of_both : (tables more : List (FaultPlace × Members)) → first_stray (tables ++ more) ≡ option_or (first_stray tables) (first_stray more)
first_of_both [] more = refl
first_of_both ((place, table) ∷ tables) more =
    elim (cases_Bool (has_stray (level_at place) table)) [
      | inl one ↦ rw one refl
      | inr none ↦ rw none (first_of_both tables more)
    ]

-- the table at place i is a link's: it or a table of its ports has such a key
pub at_link : {T : Type 0} (seen : T → Members) (tables : List T) (i : ℕ) (table : T) (found : Option FaultPlace) → i < length tables → table ≡ get_or tables i table
    → found ≡ first_stray (placed_link i (seen table))
    → first_stray (placed_links i (map seen (drop i tables))) ≡ option_or found (first_stray (placed_links (i + 1) (map seen (drop (i + 1) tables))))
at_link seen tables i table found within same is = rw (drop_more tables i table within, ← same, is) (first_of_both (placed_link i (seen table)) _)
