use Rattle.std.proofs.Common.{◌≡◌, ◌∙◌, ◌≤◌, ℕ, Option, Some, None, Result, Ok, Err, IfSome, option_map, sym, ap, refl}
use Rattle.std.specs.Str.Parse.{ExplainsUnsignedError, HasUnsignedDigitsIfOk, ParsesUnsigned}
use Rattle.clap.specs.Words.{ReadsOne, Text, first_of, found_of, one_text}
use Rattle.clap.proofs.WalkLemmas.{one_text-rows}
use Rattle.command_line.specs.Command.{IsTime, given_rows, latest_time, microseconds_in}
use Rattle.command_line.proofs.line.time_of.Goals as goal

-- a text of a time is read as its number
time_is : {E : Type 0} (gives : Text → Result ℕ E → Type 0) (text : Text) (r : Option ℕ) → ReadsOne gives text r
    → ((t : Text) (x : Result ℕ E) → gives t x → ParsesUnsigned 64 10 t x) → IsTime text → r ≡ Some (microseconds_in text)
time_is gives text (Some n) read only time = ap Some (only text (Ok n) read).1
time_is gives text None read only time = absurd (only text (Err read.0) read.1 (time.0, time.1))

module _ (c : goal.After-get_one) where
  text : one_text (found_of c.args.matches.now) c.args.name.now ≡ first_of c.args.name.now (given_rows c.args.matches.now)
  text = one_text-rows (found_of c.args.matches.now) c.args.name.now ∙ c.requires.read

  both : (first : Option Text) → first_of c.args.name.now (given_rows c.args.matches.now) ≡ first → IfSome first IsTime
      → (option_map microseconds_in first ≡ c.get_one.result) × IfSome c.get_one.result (λ time. time ≤ latest_time)
  both None is time = let none = c.get_one.ensures.none (text ∙ is) in (sym none, rw none tt)
  both (Some t) is time =
      let read = c.get_one.ensures.value t (text ∙ is) in
      let got : c.get_one.result ≡ Some (microseconds_in t) = time_is
      (λ u x. ParsesUnsigned 64 10 u x × ExplainsUnsignedError 10 u x × HasUnsignedDigitsIfOk u x)
      t c.get_one.result read (λ u x gives. gives.0) time in
      (sym got, rw got time.3)

pub returns-clause-value : goal.returns-clause-value
returns-clause-value c = (both c _ refl c.requires.time).0

pub returns-clause-range : goal.returns-clause-range
returns-clause-range c = (both c _ refl c.requires.time).1
