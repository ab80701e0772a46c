use Rattle.std.proofs.Common.{◌≡◌, ◌∙◌, List, true, refl, sym, ap, subst}
use Rattle.clap.specs.Words.{App, HasKind, Row, fault_of, is_simple, is_simple_and_free, matches_of, takes}
use Rattle.clap.specs.declared.error.kind.ErrorKind.{ErrorKind}
use Rattle.command_line.specs.Command.{IsFaultOfWords, IsLineIn, IsLineOfWords, IsTakenByCommand, play_command, texts_of, fault_from}
use Rattle.command_line.specs.declared.fault.LineFault.{LineFault}
use Rattle.command_line.proofs.Faults.{fault_says, fault_of_words, free}
use Rattle.command_line.proofs.Options.{config_given, a_given, b_given, time_read, time_in_range}
use Rattle.command_line.proofs.line.line_of.Goals as goal

pub line_from-requires-clause-config : goal.line_from-requires-clause-config
line_from-requires-clause-config c = config_given c.in_ok-play_command.field-0 c.in_ok-play_command.ensures c.in-Ok.matches c.in-Ok.ensures.parsed

pub line_from-requires-clause-a : goal.line_from-requires-clause-a
line_from-requires-clause-a c = a_given c.in_ok-play_command.field-0 c.in_ok-play_command.ensures c.in-Ok.matches c.in-Ok.ensures.parsed

pub line_from-requires-clause-b : goal.line_from-requires-clause-b
line_from-requires-clause-b c = b_given c.in_ok-play_command.field-0 c.in_ok-play_command.ensures c.in-Ok.matches c.in-Ok.ensures.parsed

pub line_from-requires-clause-read : goal.line_from-requires-clause-read
line_from-requires-clause-read c = time_read c.in_ok-play_command.field-0 c.in_ok-play_command.ensures c.in-Ok.matches c.in-Ok.ensures.parsed

pub line_from-requires-clause-at : goal.line_from-requires-clause-at
line_from-requires-clause-at c = time_in_range c.in_ok-play_command.field-0 c.in_ok-play_command.ensures c.in-Ok.matches c.in-Ok.ensures.parsed

pub returns-in_ok-line_from-in-Ok-clause-taken : goal.returns-in_ok-line_from-in-Ok-clause-taken
unfolding IsTakenByCommand
returns-in_ok-line_from-in-Ok-clause-taken c =
    let is = c.in_ok-play_command.ensures in
    let none = c.in-Ok.ensures.kinds (ap is_simple_and_free is ∙ free) in
    (fault_says (texts_of c.args.words.now)).none (sym (ap (λ (a : App). fault_of a (texts_of c.args.words.now)) is) ∙ none)

simple : is_simple play_command ≡ true
simple = refl

pub returns-in_ok-line_from-in-Ok-clause-line : goal.returns-in_ok-line_from-in-Ok-clause-line
unfolding IsLineOfWords
returns-in_ok-line_from-in-Ok-clause-line c =
    let is = c.in_ok-play_command.ensures in
    let rows = (c.in-Ok.ensures.matches (ap is_simple is ∙ simple)).0 ∙ ap (λ (a : App). matches_of a (texts_of c.args.words.now)) is in
    subst (λ (matched : List Row). IsLineIn matched c.in_ok-line_from-in-Ok.field-0) rows c.in_ok-line_from-in-Ok.ensures.line

pub returns-in-Err-clause-fault : goal.returns-in-Err-clause-fault
returns-in-Err-clause-fault c =
    let is = c.in_ok-play_command.ensures in
    let failed = c.in-Err.ensures.kinds (ap is_simple_and_free is ∙ free) in
    let read = fault_of_words c.args.words.now c.in-Err.error
    (subst (λ (a : App). HasKind (fault_of a (texts_of c.args.words.now)) c.in-Err.error) is failed) in
    subst (λ (f : LineFault). IsFaultOfWords c.args.words.now f) (sym c.fault_from.ensures) read

pub returns-in-Err-clause-memory : goal.returns-in-Err-clause-memory
unfolding IsTakenByCommand
returns-in-Err-clause-memory c taken =
    let is = c.in_ok-play_command.ensures in
    let none = c.in-Err.ensures.passes (ap (λ (a : App). takes a (texts_of c.args.words.now)) is ∙ taken) in
    c.fault_from.ensures ∙ ap (λ (k : ErrorKind). fault_from k c.in-Err.error) none
