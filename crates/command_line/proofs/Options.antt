-- A parse that succeeds gives each of the three files a value, and the time a number in its range or none.
use Rattle.std.proofs.Common.{◌≡◌, ◌∙◌, ◌<◌, ◌≤◌, ℕ, zero, suc, List, [], ◌∷◌, map, length, is_some, true, true≢false, Option, None, refl, sym, ap, subst, inl, inr, arith, codes, get_or}
use Rattle.std.specs.Borrow.{Bor}
use Rattle.std.specs.List.{All, list_all, slice_index_or}
use Rattle.std.specs.Prelude.{IfSome, Some, option_map, option_and_then, slice_get}
use Rattle.std.specs.Str.{bytes_eq}
use Rattle.std.proofs.lemmas.List.{get_or-map, length-map}
use Rattle.std.proofs.lemmas.Slice.Eq.{bytes_eq-Decides}
use Rattle.clap.specs.Words.{Accepts, App, IsParsedFrom, IsPlain, Rule, SameRules, Text, app_of, args_of, first_of, first_value, found_of, groups_of, matched_of, new_rule, one_of, one_text, parser_of, read_as, reading_of, rows_of, rule_of}
use Rattle.clap.specs.Facts.{EntryPasses, least_values, parser_of_value, unwrap_or_range}
use Rattle.clap.specs.Simple.{IsSimple, is_ready, is_ready_leaf}
use Rattle.clap.specs.declared.builder.arg.Arg.{Arg}
use Rattle.clap.specs.declared.builder.range.ValueRange.{ValueRange}
use Rattle.clap.specs.declared.builder.command.Command.{Command}
use Rattle.clap.specs.declared.builder.value_parser.Reading.{Reading}
use Rattle.clap.specs.declared.builder.value_parser.Reading.TheVariants.{AsWritten}
use Rattle.clap.specs.declared.builder.value_parser.ValueParser.{ValueParser}
use Rattle.clap.specs.declared.builder.value_parser.ValueParser.TheVariants.{Unsigned}
use Rattle.clap.specs.declared.parser.matches.ArgMatches.{ArgMatches}
use Rattle.clap.specs.declared.parser.matches.MatchedArg.{MatchedArg}
use Rattle.clap.proofs.CallerLemmas.{entry_by_id, required_has_value, same_rules_by_id}
use Rattle.clap.proofs.SimpleLemmas.{ready_simple, simple_groups}
use Rattle.clap.proofs.TakesLemmas.{each_rule, free_arg}
use Rattle.clap.proofs.WalkLemmas.{first_value-rows, one_text-rows}
use Rattle.command_line.specs.Command.{IsTime, file_option, latest_time, play_command, time_option}

abbrev options : List Rule
options = play_command.top.rules

abbrev option_at : ℕ → Rule
option_at k = get_or options k (new_rule [])

-- texts of two lengths differ
apart : (t u : Text) → (length t ≡ length u → ⊥) → t ≡ u → ⊥
apart t u lengths same = lengths (ap (λ (w : Text). length w) same)

-- no other option has this name
abbrev IsOnly : ℕ → Text → Type 0
IsOnly k name = (j : ℕ) → j < 6 → bytes_eq (option_at j).id name ≡ true → j ≡ k

first_arg : (xs : List Arg) → map rule_of xs ≡ options → Arg
first_arg [] e = let bad : ◌≡◌ {A = ℕ} 0 6 = ap (λ (rs : List Rule). length rs) e in absurd (omega arith)
first_arg (x ∷ xs) e = x

module _ (c : Command) (is : app_of c ≡ play_command) where
  rules : map rule_of (args_of c) ≡ options
  rules = ap (λ (a : App). a.top.rules) is

  simple : IsSimple c
  simple = ready_simple c (ap (λ (a : App). is_ready a.top) is) (ap (λ (a : App). list_all is_ready_leaf a.subs) is)

  plain : IsPlain c
  plain = (
    λ k d lt.
        let free = free_arg (slice_index_or (args_of c) k d) (simple.args k d lt)
        (each_rule (λ r. r.is_free) (args_of c) (ap (λ (a : App). list_all (λ r. r.is_free) a.top.rules) is) k d lt) in
        let ungrouped = simple_groups c (ap (λ (a : App). list_all (λ r. r.is_simple) a.top.rules) is) k d lt in
        (free.exclusive, free.conflicts, free.overrides, ungrouped),
    simple.groups,
  )

  rule_at : (k : ℕ) (d : Arg) → k < length (args_of c) → rule_of (slice_index_or (args_of c) k d) ≡ option_at k
  rule_at k d lt = sym (get_or-map rule_of (args_of c) k d (new_rule []) lt) ∙ ap (λ rs. get_or rs k (new_rule [])) rules

  six : length (args_of c) ≡ 6
  six = sym (length-map (args_of c) rule_of) ∙ ap (λ (rs : List Rule). length rs) rules

  only_at : (k : ℕ) (d : Arg) (name : Text) → (slice_index_or (args_of c) k d).id.now ≡ name → IsOnly k name → (j : ℕ) (e : Arg) → j < length (args_of c)
      → bytes_eq (slice_index_or (args_of c) j e).id.now (slice_index_or (args_of c) k d).id.now ≡ true → j ≡ k
  only_at k d name id only j e below same =
      let there : (slice_index_or (args_of c) j e).id.now ≡ (option_at j).id = ap (λ (r : Rule). r.id) (rule_at j e below) in
      let near : j < 6 = rw six at below in
      only j near (rw (there, id) at same)

  module _ (m : ArgMatches) (parsed : IsParsedFrom c m) where
    given_at : (k : ℕ) (name : Text) → k < 6 → option_at k ≡ file_option name
        → IsOnly k name → (name ≡ [] → ⊥) → (name ≡ codes "help" → ⊥) → (name ≡ codes "version" → ⊥)
        → is_some (first_of name (rows_of (found_of m))) ≡ true
    given_at k name lt at only named helps versions =
        let d = first_arg (args_of c) rules in
        let a = slice_index_or (args_of c) k d in
        let low : k < length (args_of c) = rw six lt in
        let rule : rule_of a ≡ file_option name = rule_at k d low ∙ at in
        let id : a.id.now ≡ name = ap (λ (r : Rule). r.id) rule in
        let range : a.num_vals ≡ None = ap (λ (r : Rule). r.range) rule in
        let least : 1 ≤ least_values a = subst (λ (r : Option ValueRange). 1 ≤ (unwrap_or_range r).start_inclusive) (sym range) (omega arith) in
        let value : is_some (first_value (found_of m) a.id.now) ≡ true =
        required_has_value c m parsed plain simple.globals (ap (λ (x : App). x.top.subcommand_negates_reqs) is) k d low
        (ap (λ (r : Rule). r.required) rule) (ap (λ (r : Rule). r.action) rule) (simple.args k d low).delimiter least
        (only_at k d name id only)
        (λ none. named (sym id ∙ none))
        (λ auto. elim auto [ inl h ↦ helps (sym id ∙ h) | inr h ↦ versions (sym id ∙ h) ]) in
        ap is_some (sym (first_value-rows (found_of m) name) ∙ ap (first_value (found_of m)) (sym id)) ∙ value

    pub config_given : is_some (first_of (codes "config") (rows_of (found_of m))) ≡ true
    config_given = given_at 0 (codes "config") (omega arith) refl only (apart (codes "config") [] (omega arith))
        (apart (codes "config") (codes "help") (omega arith)) (apart (codes "config") (codes "version") (omega arith))
      where
        only : IsOnly 0 (codes "config")
        only zero lt same = refl
        only (suc zero) lt same = absurd (true≢false (sym same))
        only (suc (suc zero)) lt same = absurd (true≢false (sym same))
        only (suc (suc (suc zero))) lt same = absurd (true≢false (sym same))
        only (suc (suc (suc (suc zero)))) lt same = absurd (true≢false (sym same))
        only (suc (suc (suc (suc (suc zero))))) lt same = absurd (true≢false (sym same))
        only (suc (suc (suc (suc (suc (suc j)))))) lt same = absurd (omega arith)

    pub a_given : is_some (first_of (codes "a") (rows_of (found_of m))) ≡ true
    a_given = given_at 1 (codes "a") (omega arith) refl only (apart (codes "a") [] (omega arith))
        (apart (codes "a") (codes "help") (omega arith)) (apart (codes "a") (codes "version") (omega arith))
      where
        only : IsOnly 1 (codes "a")
        only zero lt same = absurd (true≢false (sym same))
        only (suc zero) lt same = refl
        only (suc (suc zero)) lt same = absurd (true≢false (sym same))
        only (suc (suc (suc zero))) lt same = absurd (true≢false (sym same))
        only (suc (suc (suc (suc zero)))) lt same = absurd (true≢false (sym same))
        only (suc (suc (suc (suc (suc zero))))) lt same = absurd (true≢false (sym same))
        only (suc (suc (suc (suc (suc (suc j)))))) lt same = absurd (omega arith)

    pub b_given : is_some (first_of (codes "b") (rows_of (found_of m))) ≡ true
    b_given = given_at 2 (codes "b") (omega arith) refl only (apart (codes "b") [] (omega arith))
        (apart (codes "b") (codes "help") (omega arith)) (apart (codes "b") (codes "version") (omega arith))
      where
        only : IsOnly 2 (codes "b")
        only zero lt same = absurd (true≢false (sym same))
        only (suc zero) lt same = absurd (true≢false (sym same))
        only (suc (suc zero)) lt same = refl
        only (suc (suc (suc zero))) lt same = absurd (true≢false (sym same))
        only (suc (suc (suc (suc zero)))) lt same = absurd (true≢false (sym same))
        only (suc (suc (suc (suc (suc zero))))) lt same = absurd (true≢false (sym same))
        only (suc (suc (suc (suc (suc (suc j)))))) lt same = absurd (omega arith)

    -- an argument of the built command that is the time's has the time's parser
    parser_of_time : (j : ℕ) (x : Arg) → j < length (args_of parsed.built) → slice_index_or (args_of parsed.built) j x ≡ x
        → bytes_eq x.id.now (codes "at") ≡ true → parser_of x ≡ Unsigned 0 latest_time
    parser_of_time j x lt at same =
        let d = first_arg (args_of c) rules in
        let a = slice_index_or (args_of c) 3 d in
        let low : 3 < length (args_of c) = rw six (omega arith) in
        let rule : rule_of a ≡ time_option (codes "at") = rule_at 3 d low in
        let id : a.id.now ≡ codes "at" = ap (λ (r : Rule). r.id) rule in
        let like : SameRules a x = same_rules_by_id c m parsed 3 d low (only_at 3 d (codes "at") id only)
        (λ auto. elim auto [
          | inl h ↦ apart (codes "at") (codes "help") (omega arith) (sym id ∙ h)
          | inr h ↦ apart (codes "at") (codes "version") (omega arith) (sym id ∙ h)
        ])
        j x lt at (rw (← id) at same) in
        ap parser_of_value (like.parser (Unsigned 0 latest_time) (ap (λ (r : Rule). r.parser) rule))
      where
        only : IsOnly 3 (codes "at")
        only zero lt same = absurd (true≢false (sym same))
        only (suc zero) lt same = absurd (true≢false (sym same))
        only (suc (suc zero)) lt same = absurd (true≢false (sym same))
        only (suc (suc (suc zero))) lt same = refl
        only (suc (suc (suc (suc zero)))) lt same = absurd (true≢false (sym same))
        only (suc (suc (suc (suc (suc zero))))) lt same = absurd (true≢false (sym same))
        only (suc (suc (suc (suc (suc (suc j)))))) lt same = absurd (omega arith)

    -- what was found for the time is read as it was written, and each of its values is a time
    time_entry : (x : MatchedArg) → matched_of (found_of m) (codes "at") ≡ Some x
        → (x.reading ≡ AsWritten) × All (λ (v : Bor Text). IsTime v.now) x.vals.items
    time_entry x found =
        let passed = (parsed.parsed (parsed.from.globals ∙ simple.globals)).values in
        let got = entry_by_id (EntryPasses parsed.built) (found_of m).entries.items (codes "at") x passed found in
        let id : got.0.0.now ≡ codes "at" = (bytes_eq-Decides got.0.0.now (codes "at")).0 got.2 in
        let same : got.0.1 ≡ x = got.1 in
        let no_groups : groups_of parsed.built ≡ [] = (parsed.from.plain plain).1 in
        let no_group : got.0.1.is_group ≡ true → ⊥ = λ group. elim (got.3.3 group) [
          | inl none ↦ apart (codes "at") [] (omega arith) (sym id ∙ none)
          | inr some ↦
              let bad : 0 < 0 = rw no_groups at some in
              absurd (omega arith)
        ] in
        let reading : got.0.1.reading ≡ AsWritten = elim got.3.4 [
          | inl group ↦ absurd (no_group group)
          | inr read ↦ sym read.4.1 ∙ ap reading_of (parser_of_time read.0 read.1 read.2 read.3 (rw id at read.4.0))
        ] in
        let values : All (λ (v : Bor Text). IsTime v.now) got.0.1.vals.items = elim got.3.0 [
          | inl group ↦ absurd (no_group group)
          | inr all ↦ λ k d lt.
              let pass = all k d lt in
              let is = parser_of_time pass.0 pass.1 pass.2 pass.3 (rw id at pass.4.0) in
              subst (λ (q : ValueParser). Accepts pass.1.ignore_case q (slice_index_or got.0.1.vals.items k d).now) is pass.4.1
        ] in
        (ap (λ (y : MatchedArg). y.reading) (sym same) ∙ reading, subst (λ (y : MatchedArg). All (λ (v : Bor Text). IsTime v.now) y.vals.items) same values)

    abbrev IsReadAsTime : Option Text → Option Text → Type 0
    IsReadAsTime one first = (one ≡ first) × IfSome first IsTime

    time_found : IsReadAsTime (one_text (found_of m) (codes "at")) (first_value (found_of m) (codes "at"))
    time_found = go (matched_of (found_of m) (codes "at")) time_entry
      where
        head : (how : Reading) (vs : List (Bor Text)) → how ≡ AsWritten → All (λ (v : Bor Text). IsTime v.now) vs
            → IsReadAsTime (option_map (λ s. read_as how s.now) (slice_get vs 0)) (option_map (λ s. s.now) (slice_get vs 0))
        head how [] is all = (refl, tt)
        head how (v ∷ vs) is all = (rw is refl, all 0 v (omega arith))

        go : (o : Option MatchedArg) → ((x : MatchedArg) → o ≡ Some x → (x.reading ≡ AsWritten) × All (λ (v : Bor Text). IsTime v.now) x.vals.items)
            → IsReadAsTime (option_and_then (λ (x : MatchedArg). option_map (λ s. read_as x.reading s.now) (slice_get x.vals.items 0)) o)
            (option_and_then (λ (x : MatchedArg). option_map (λ s. s.now) (slice_get x.vals.items 0)) o)
        go None each = (refl, tt)
        go (Some x) each = let is = each x refl in head x.reading x.vals.items is.0 is.1

    -- the time among the rows is given as written, in digits
    time_given : IsReadAsTime (one_of (codes "at") (rows_of (found_of m))) (first_of (codes "at") (rows_of (found_of m)))
    time_given = subst (λ (o : Option Text). IsReadAsTime o (first_of (codes "at") (rows_of (found_of m)))) (one_text-rows (found_of m) (codes "at"))
        (subst (λ (o : Option Text). IsReadAsTime (one_text (found_of m) (codes "at")) o) (first_value-rows (found_of m) (codes "at")) time_found)

    pub time_read : one_of (codes "at") (rows_of (found_of m)) ≡ first_of (codes "at") (rows_of (found_of m))
    time_read = time_given.0

    pub time_in_range : IfSome (first_of (codes "at") (rows_of (found_of m))) IsTime
    time_in_range = time_given.1
