-- A command without subcommands finds one fault at most in any words, and none only if it takes them.
use Rattle.std.proofs.Common.{◌≡◌, ◌∙◌, ◌&&◌, ◌||◌, ◌==◌, ℕ, Bool, zero, suc, true, false, true≢false, not, List, [], ◌∷◌, length, drop, min, Option, Some, None, is_some, refl, sym, ap, subst, inl, inr, arith, codes}
use Rattle.std.specs.Prelude.{if◌then◌else◌, nat_le, nat_lt, encode_utf8, slice_get, ◌+◌}
use Rattle.std.specs.List.{list_all}
use Rattle.std.specs.Option.{option_map_or}
use Rattle.std.specs.Str.{bytes_eq, chars}
use Rattle.clap.specs.Lexer.{long_of, short_of}
use Rattle.clap.specs.Matches.{count_text}
use Rattle.clap.specs.Facts.{parser_of_value, unwrap_or_range}
use Rattle.clap.specs.Walk.{Held, Names, Row, Rule, Step, Text, Waiting, Walk, action_of, arg_by_id, arg_by_index, arg_by_long, arg_by_short, attached_value, count_of, finished, has_row, is_empty, is_pending, most_values, next, nothing_held, reacted, settled, subcommand, subcommand_met, takes_several, takes_values, trailing, value, values_or_missing, walk, walk_from, walked, with_default, word_met}
use Rattle.clap.specs.Simple.{Shape, built, entered}
use Rattle.clap.specs.Takes.{action_passes, bundle_passes, bundle_step_passes, count_passes, default_passes, entered_passes, flag_word_passes, flags_pass, is_given, is_valid, level_passes, long_passes, option_passes, other_passes, positional_passes, react_passes, set_passes, settle_passes, short_passes, step_passes, takes, turn_passes, use_passes, value_passes, values_pass, walk_passes, word_passes}
use Rattle.clap.specs.Kinds.{HasKind, IsAmong, Kinds, or_else, range_kinds, request_kinds}
use Rattle.clap.specs.Faults.{default_fault, given_default_fault, is_simple_and_free, action_fault, bundle_fault, bundle_step_fault, check_fault, count_fault, defaults_fault, entered_fault, fault_of, flag_word_fault, flags_fault, level_fault, long_fault, option_fault, other_fault, positional_fault, react_fault, set_fault, settle_fault, short_fault, step_fault, turn_fault, use_fault, values_fault, walk_fault, word_fault}
use Rattle.clap.specs.Values.{is_request, kind_of, refused_kind}
use Rattle.clap.specs.declared.builder.action.ArgAction.{ArgAction}
use Rattle.clap.specs.declared.builder.action.ArgAction.TheVariants as action
use Rattle.clap.specs.declared.error.Error.{Error}
use Rattle.clap.specs.declared.error.kind.ErrorKind.{ErrorKind}
use Rattle.clap.specs.declared.error.kind.ErrorKind.TheVariants as kind
use Rattle.clap.proofs.FaultLemmas.{past}
use Rattle.clap.proofs.WalkLemmas.{both}
use Rattle.std.specs.Prelude.{String}
use Rattle.std.specs.declared.alloc.Global.{Global}
use Rattle.command_line.specs.Command.{HasWordFault, IsFaultOfWords, play_command, texts_of, fault_from}

-- there is one kind at most, and none only if the test passes
pub record Says (kinds : Kinds) (passes : Bool) : Type 0 where
  pub one : (k : ErrorKind) → IsAmong k kinds → kinds ≡ k ∷ []
  pub none : kinds ≡ [] → passes ≡ true

no_kind : Says [] true
no_kind = record { one = λ k among. absurd among; none = λ e. refl }

one_kind : (k : ErrorKind) (passes : Bool) → Says (k ∷ []) passes
one_kind k passes = record {
  one = λ j among. elim among [ inl e ↦ ap (λ (x : ErrorKind). x ∷ []) (sym e) | inr none ↦ absurd none ];
  none = λ e. cc;
}

after : (a b : Kinds) (p q : Bool) → Says a p → Says b q → Says (or_else a b) (p && q)
after [] b p q s t = subst (λ (x : Bool). Says b (x && q)) (sym (s.none refl)) t
after (k ∷ ks) b p q s t = record { one = s.one; none = λ e. cc }

-- a step that the test skips
unless : (skips : Bool) (a : Kinds) (p : Bool) → Says a p → Says (if skips then [] else a) (skips || p)
unless true a p s = no_kind
unless false a p s = s

test : (passes : Bool) (k : ErrorKind) → Says (if passes then [] else k ∷ []) passes
test true k = no_kind
test false k = one_kind k false

-- ---- one use of an argument

values_say : (a : Rule) (vs : List Text) → Says (values_fault a vs) (values_pass a vs)
values_say a [] = no_kind
values_say a (v ∷ vs) = after _ _ _ _ (test (value_passes a v) (refused_kind (parser_of_value a.parser))) (values_say a vs)

count_says : (a : Rule) (vs : List Text) (rows : List Row) → Says (count_fault a vs rows) (count_passes a vs rows)
count_says a [] rows = test (value_passes a (count_text (min (count_of a.id rows + 1) 255))) (refused_kind (parser_of_value a.parser))
count_says a (v ∷ vs) rows = values_say a (v ∷ vs)

repeat_says : (has again : Bool) → Says (if has && not again then kind.ArgumentConflict ∷ [] else []) (not has || again)
repeat_says true true = no_kind
repeat_says true false = one_kind _ _
repeat_says false again = no_kind

set_says : (again : Bool) (a : Rule) (vs : List Text) (rows : List Row) → Says (set_fault again a vs rows) (set_passes again a vs rows)
set_says again a vs rows = after _ _ _ _ (repeat_says (has_row a.id rows) again) (values_say a vs)

action_says : (x : ArgAction) (again : Bool) (a : Rule) (vs : List Text) (rows : List Row)
    → Says (action_fault x again a vs rows) (action_passes x again a vs rows)
action_says action.Set again a vs rows = set_says again a vs rows
action_says action.SetTrue again a vs rows = set_says again a vs rows
action_says action.SetFalse again a vs rows = set_says again a vs rows
action_says action.Append again a vs rows = values_say a vs
action_says action.Count again a vs rows = count_says a vs rows
action_says action.Help again a vs rows = one_kind _ _
action_says action.HelpShort again a vs rows = one_kind _ _
action_says action.HelpLong again a vs rows = one_kind _ _
action_says action.Version again a vs rows = one_kind _ _

range_one : (a b c d e : Bool) (k : ErrorKind)
    → IsAmong k (if a then kind.InvalidValue ∷ [] else (if b then (if c then [] else kind.WrongNumberOfValues ∷ [])
    else (if d then kind.TooFewValues ∷ [] else (if e then kind.TooManyValues ∷ [] else []))))
    → (if a then kind.InvalidValue ∷ [] else (if b then (if c then [] else kind.WrongNumberOfValues ∷ [])
    else (if d then kind.TooFewValues ∷ [] else (if e then kind.TooManyValues ∷ [] else [])))) ≡ k ∷ []
range_one true b c d e k h = (one_kind kind.InvalidValue false).one k h
range_one false true true d e k h = no_kind.one k h
range_one false true false d e k h = (one_kind kind.WrongNumberOfValues false).one k h
range_one false false c true e k h = (one_kind kind.TooFewValues false).one k h
range_one false false c false true k h = (one_kind kind.TooManyValues false).one k h
range_one false false c false false k h = no_kind.one k h

range_says : (least most n : ℕ) → Says (range_kinds least most n) (nat_le least n && nat_le n most)
range_says least most n = record {
  one = range_one (nat_lt 0 least && n == 0) (least == most) (least == n) (nat_lt n least) (nat_lt most n);
  none = in_range (nat_lt 0 least && n == 0) (least == most) (least == n) (nat_lt n least) (nat_lt most n) refl refl refl refl refl;
}
  where
    in_range : (a b c d e : Bool) → (nat_lt 0 least && n == 0) ≡ a → (least == most) ≡ b → (least == n) ≡ c → nat_lt n least ≡ d → nat_lt most n ≡ e
        → (if a then kind.InvalidValue ∷ [] else (if b then (if c then [] else kind.WrongNumberOfValues ∷ [])
        else (if d then kind.TooFewValues ∷ [] else (if e then kind.TooManyValues ∷ [] else [])))) ≡ []
        → (nat_le least n && nat_le n most) ≡ true
    in_range true b c d e pa pb pc pd pe none = cc
    in_range false true true d e pa pb pc pd pe none = grind arith
    in_range false true false d e pa pb pc pd pe none = cc
    in_range false false c true e pa pb pc pd pe none = cc
    in_range false false c false true pa pb pc pd pe none = cc
    in_range false false c false false pa pb pc pd pe none = grind arith

both_first : (p q r : Bool) → ((p && q) && r) ≡ (p && (q && r))
both_first true q r = refl
both_first false q r = refl

use_says : (again : Bool) (a : Rule) (vs : List Text) (rows : List Row) → Says (use_fault again a vs rows) (use_passes again a vs rows)
use_says again a vs rows = subst (Says (use_fault again a vs rows))
    (both_first (nat_le (unwrap_or_range a.range).start_inclusive (length vs)) (nat_le (length vs) (most_values a)) _)
    (after _ _ _ _ (range_says (unwrap_or_range a.range).start_inclusive (most_values a) (length vs))
    (action_says (action_of a) again a (values_or_missing a vs) rows))

-- ---- the walk

module _ (c : List Rule) (again : Bool) where
  settle_says : (h : Held) → Says (settle_fault c again h) (settle_passes c again h)
  settle_says h = go h.pending
    where
      found : (o : Option Rule) (vs : List Text) → Says (option_map_or (λ a. use_fault again a vs h.rows) o []) (option_map_or (λ a. use_passes again a vs h.rows) o true)
      found None vs = no_kind
      found (Some a) vs = use_says again a vs h.rows

      go : (o : Option (Text × List Text))
          → Says (option_map_or (λ p. option_map_or (λ a. use_fault again a p.1 h.rows) (arg_by_id c p.0) []) o [])
          (option_map_or (λ p. option_map_or (λ a. use_passes again a p.1 h.rows) (arg_by_id c p.0) true) o true)
      go None = no_kind
      go (Some p) = found (arg_by_id c p.0) p.1

  react_says : (a : Rule) (vs : List Text) (h : Held) → Says (react_fault c again a vs h) (react_passes c again a vs h)
  react_says a vs h = after _ _ _ _ (settle_says h) (use_says again a vs (settled c h).rows)

  option_says : (a : Rule) (v : Option Text) (h : Held) → Says (option_fault c again a v h) (option_passes c again a v h)
  option_says a (Some v) h = react_says a (v ∷ []) h
  option_says a None h = settle_says h

  long_says : (o : Option Rule) (v : Option Text) (h : Held) → Says (long_fault c again o v h) (long_passes c again o v h)
  long_says None v h = one_kind _ _
  long_says (Some a) v h = go (takes_values a) v
    where
      go : (t : Bool) (v : Option Text) → Says (if t then option_fault c again a v h else (if is_some v then kind.TooManyValues ∷ [] else react_fault c again a [] h))
          (if t then option_passes c again a v h else (not (is_some v) && react_passes c again a [] h))
      go true v = option_says a v h
      go false (Some v) = one_kind _ _
      go false None = react_says a [] h

  short_says : (o : Option Rule) (rest : Text) (h : Held) (faults : Held → Kinds) (passes : Held → Bool)
      → ((g : Held) → Says (faults g) (passes g)) → Says (short_fault c again o rest h faults) (short_passes c again o rest h passes)
  short_says None rest h faults passes s = one_kind _ _
  short_says (Some a) rest h faults passes s = go (takes_values a)
    where
      go : (t : Bool) → Says (if t then option_fault c again a (attached_value rest) h else or_else (react_fault c again a [] h) (faults (reacted c a [] h)))
          (if t then option_passes c again a (attached_value rest) h else (react_passes c again a [] h && passes (reacted c a [] h)))
      go true = option_says a (attached_value rest) h
      go false = after _ _ _ _ (react_says a [] h) (s (reacted c a [] h))

  step_of_bundle : (x : Option ℕ) (flags : Text) (skip : ℕ) (h : Held) (faults : Text → ℕ → Held → Kinds) (passes : Text → ℕ → Held → Bool)
      → ((f : Text) (n : ℕ) (g : Held) → Says (faults f n g) (passes f n g))
      → Says (bundle_step_fault c again x flags skip h faults) (bundle_step_passes c again x flags skip h passes)
  step_of_bundle None flags skip h faults passes s = no_kind
  step_of_bundle (Some x) flags zero h faults passes s =
      let rest = drop (length (encode_utf8 x)) flags in
      short_says (arg_by_short c x) rest h (faults rest 0) (passes rest 0) (s rest 0)
  step_of_bundle (Some x) flags (suc skip) h faults passes s = s (drop (length (encode_utf8 x)) flags) skip h

  flags_say : (k : ℕ) (flags : Text) (skip : ℕ) (h : Held) → Says (flags_fault c again k flags skip h) (flags_pass c again k flags skip h)
  unfolding flags_fault flags_pass
  flags_say zero flags skip h = no_kind
  flags_say (suc k) flags skip h = step_of_bundle (slice_get (chars flags) 0) flags skip h (flags_fault c again k) (flags_pass c again k) (flags_say k)

  bundle_says : (flags : Text) (h : Held) → Says (bundle_fault c again flags h) (bundle_passes c again flags h)
  bundle_says flags h = flags_say (length flags) flags h.skip (record h { skip = 0 })

  flag_word_says : (p : Option (Text × Option Text)) (word : Text) (h : Held) → Says (flag_word_fault c again p word h) (flag_word_passes c again p word h)
  flag_word_says (Some p) word h = long_says (arg_by_long c p.0) p.1 h
  flag_word_says None word h = go (short_of word)
    where
      go : (o : Option Text) → Says (option_map_or (λ flags. bundle_fault c again flags h) o []) (option_map_or (λ flags. bundle_passes c again flags h) o true)
      go None = no_kind
      go (Some flags) = bundle_says flags h

  positional_says : (a : Rule) (h : Held) → Says (positional_fault c again a h) (positional_passes c again a h)
  positional_says a h = unless (is_pending a h.pending && takes_several a) _ _ (settle_says h)

-- ---- the defaults

values_none : (a : Rule) (vs : List Text) → values_pass a vs ≡ true → values_fault a vs ≡ []
values_none a [] e = refl
values_none a (v ∷ vs) e = past _ _ (passed (value_passes a v) (both (value_passes a v) _ e).0) ∙ values_none a vs (both (value_passes a v) _ e).1
  where
    passed : (passes : Bool) → passes ≡ true → (if passes then [] else refused_kind (parser_of_value a.parser) ∷ []) ≡ []
    passed true e = refl
    passed false e = absurd (true≢false (sym e))

no_request : (x : ArgAction) → not (is_request x) ≡ true → request_kinds x ≡ []
no_request action.Set e = refl
no_request action.SetTrue e = refl
no_request action.SetFalse e = refl
no_request action.Append e = refl
no_request action.Count e = refl
no_request action.Help e = absurd (true≢false (sym e))
no_request action.HelpShort e = absurd (true≢false (sym e))
no_request action.HelpLong e = absurd (true≢false (sym e))
no_request action.Version e = absurd (true≢false (sym e))

-- a default that passes makes no fault
no_default : (a : Rule) → default_passes a ≡ true → (rows : List Row) → default_fault rows a ≡ []
no_default a e rows = go (has_row a.id rows) (is_empty a.defaults) e
  where
    go : (has empty : Bool) → (empty || (not (is_request (action_of a)) && values_pass a a.defaults)) ≡ true
        → (if has || empty then [] else given_default_fault a a.defaults) ≡ []
    go true empty e = refl
    go false true e = refl
    go false false e =
        let each = both (not (is_request (action_of a))) _ e in
        past _ _ (no_request (action_of a) each.0) ∙ values_none a a.defaults each.1

no_defaults : (rs : List Rule) → list_all default_passes rs ≡ true → (rows : List Row) → defaults_fault rows rs ≡ []
unfolding defaults_fault
no_defaults [] e rows = refl
no_defaults (a ∷ rest) e rows =
    let each = both (default_passes a) _ e in
    past (default_fault rows a) _ (no_default a each.0 rows) ∙ no_defaults rest each.1 (with_default rows a)

module _ (s : Shape) (leaf : s.is_leaf ≡ true) (unhelped : s.disable_help_subcommand ≡ true) where
  other_says : (name : Option Text) (word : Text) (h : Held) → Says (other_fault s name word h) (other_passes s name word h)
  other_says (Some name) word h = rw unhelped (go (bytes_eq name (codes "help")))
    where
      go : (b : Bool) → Says (if b && not true then kind.DisplayHelp ∷ kind.InvalidSubcommand ∷ [] else []) (not b || true)
      go true = no_kind
      go false = no_kind
  other_says None word h = unless (bytes_eq word (45 ∷ 45 ∷ [])) _ _ (flag_word_says s.rules s.args_override_self (long_of word) word h)

  word_says : (names : Names) (is_trailing : Bool) (waiting : Waiting) (word : Text) (h : Held)
      → Says (word_fault s names is_trailing waiting word h) (word_passes s names is_trailing waiting word h)
  word_says names is_trailing waiting word h = unless is_trailing _ _ (other_says (subcommand_met names waiting word) word h)

  step_says : (position : ℕ) (h : Held) (x : Step) → Says (step_fault s position h x) (step_passes s position h x)
  step_says position h value = go (arg_by_index s.rules position)
    where
      stray : Says (if s.is_leaf then kind.UnknownArgument ∷ [] else kind.UnknownArgument ∷ kind.InvalidSubcommand ∷ []) false
      stray = rw leaf (one_kind kind.UnknownArgument false)

      go : (o : Option Rule)
          → Says (option_map_or (λ a. positional_fault s.rules s.args_override_self a h) o (if s.is_leaf then kind.UnknownArgument ∷ [] else kind.UnknownArgument ∷ kind.InvalidSubcommand ∷ []))
          (option_map_or (λ a. positional_passes s.rules s.args_override_self a h) o false)
      go None = stray
      go (Some a) = positional_says s.rules s.args_override_self a h
  step_says position h (next w) = no_kind
  step_says position h (trailing n) = no_kind
  step_says position h (subcommand name) = no_kind

  turn_says : (names : Names) (w : Walk) (word : Text) → Says (turn_fault s names w word) (turn_passes s names w word)
  turn_says names w word =
      let met = word_met s.rules names w.is_trailing w.waiting w.position word w.held in
      unless (is_some w.stopped) _ _ (after _ _ _ _ (word_says names w.is_trailing w.waiting word w.held) (step_says w.position met.0 met.1))

  walk_says : (names : Names) (w : Walk) (words : List Text) → Says (walk_fault s names w words) (walk_passes s names w words)
  unfolding walk_fault walk_passes
  walk_says names w [] = no_kind
  walk_says names w (word ∷ rest) = after _ _ _ _ (turn_says names w word) (walk_says names (walked s.rules names w word) rest)

  -- ---- after the walk

  level_says : (passing : list_all default_passes s.rules ≡ true)
      → ((rows : List Row) → Says (check_fault s rows false) (is_valid s rows false))
      → (names : Names) (h : Held) (words : List Text) → Says (level_fault s names h words false []) (level_passes s names h words false)
  level_says passing checked names h words =
      let end = (walk s.rules names h words).held in
      after _ _ _ _ (walk_says names (walk_from h) words)
      (after _ _ _ _ (settle_says s.rules s.args_override_self end)
      (after _ _ _ _ (defaults_say (settled s.rules end).rows) (checked (finished s.rules end))))
    where
      defaults_say : (rows : List Row) → Says (defaults_fault rows s.rules) (list_all default_passes s.rules)
      defaults_say rows = rw (passing, no_defaults s.rules passing rows) no_kind

-- ---- the command of the program

abbrev top : Shape
top = (built play_command).top

missing : (x y z : Bool) → Says (if not x || (not y || (not z || false)) then kind.MissingRequiredArgument ∷ [] else []) (x && (y && (z && true)))
missing true true true = no_kind
missing true true false = one_kind _ _
missing true false z = one_kind _ _
missing false y z = one_kind _ _

play_says : (names : Names) (h : Held) (words : List Text) → Says (level_fault top names h words false []) (level_passes top names h words false)
play_says = level_says top refl refl refl
    (λ rows. missing (is_given (codes "config") rows) (is_given (codes "a") rows) (is_given (codes "b") rows))

pub fault_says : (words : List Text) → Says (fault_of play_command words) (takes play_command words)
fault_says words = go (walk top.rules [] nothing_held words).stopped
  where
    go : (stop : Option (Text × List Text))
        → Says (level_fault top [] nothing_held words (is_some (entered (built play_command) stop)) (entered_fault (built play_command) stop))
        (entered_passes (built play_command) stop && level_passes top [] nothing_held words (is_some (entered (built play_command) stop)))
    go None = play_says [] nothing_held words
    go (Some p) = play_says [] nothing_held words

-- the fault that an error of the command becomes is of the words
pub fault_of_words : (words : List (String Global)) (e : Error) → HasKind (fault_of play_command (texts_of words)) e → IsFaultOfWords words (fault_from (kind_of e) e)
unfolding HasWordFault
fault_of_words words e (inl none) = subst (λ (k : ErrorKind). IsFaultOfWords words (fault_from k e)) (sym none) tt
fault_of_words words e (inr among) = go (kind_of e) refl ((fault_says (texts_of words)).one (kind_of e) among)
  where
    go : (k : ErrorKind) → kind_of e ≡ k → HasWordFault (kind_of e) words → IsFaultOfWords words (fault_from k e)
    go kind.DisplayHelp is has = (has, inl is)
    go kind.DisplayVersion is has = (has, inr is)
    go kind.OutOfMemory is has = tt
    go other is has = (has, λ request. elim request [ inl help ↦ cc | inr version ↦ cc ])

pub free : is_simple_and_free play_command ≡ true
free = refl
