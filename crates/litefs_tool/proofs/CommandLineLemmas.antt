-- Arguments, by what clap answers.
use Rattle.std.proofs.Common.{◌≡◌, ◌≢◌, ◌∙◌, ◌⊎◌, true, true≢false, false, List, [], ◌∷◌, Option, Some, None, Result, Ok, Err, option_map, refl, sym, ap, ap₂, inl, inr}
use Rattle.std.specs.Prelude.{IfOk, is_some}
use Rattle.std.specs.Box.{box_value}
use Rattle.clap.specs.Walk.{is_empty}
use Rattle.clap.specs.Words.{App, HasMatchesOf, Text, fault_of, is_simple, is_simple_and_free, subcommand_name_of, subcommand_of, subcommand_rows, subcommand_rows_of}
use Rattle.clap.specs.Words.{takes}
use Rattle.clap.specs.declared.error.kind.ErrorKind.{ErrorKind}
use Rattle.clap.specs.declared.error.kind.ErrorKind.TheVariants.{OutOfMemory}
use Rattle.clap.specs.declared.parser.matches.ArgMatches.{ArgMatches}
use Rattle.clap.specs.declared.parser.matches.ArgMatches.TheViews.{out-ArgMatches, out-SubCommand}
use Rattle.litefs_tool.specs.Words.{name_text}
use Rattle.litefs_tool.specs.steps.CommandLine.{arguments_of, IsNameAlone, IsNamed, program}
use Rattle.litefs_tool.specs.declared.naming.CommandName.{CommandName}
use Rattle.litefs_tool.proofs.ClapLemmas.{faultless, has_dashes, is_simple_program, name_in, names_command, names_none, takes_command, undashed_command}

some_is_not_none : {X : Type 0} {x : X} → None ≡ Some x → ⊥
some_is_not_none e = true≢false (sym (ap is_some e))

-- no command has an argument `--`
pub dashed : (arguments : List Text) → has_dashes arguments ≡ true → (command : CommandName) → arguments ≢ arguments_of command
dashed arguments some command is = true≢false (sym some ∙ ap has_dashes is ∙ undashed_command command)

name_of_matches : (matches : ArgMatches) → subcommand_name_of matches ≡ name_in (subcommand_rows_of matches)
name_of_matches matches = elim (out-ArgMatches matches).subcommand as (λ met. option_map (λ sub. (out-SubCommand (box_value sub)).name.now) met ≡ name_in (subcommand_rows met)) [
  | None ↦ refl
  | Some sub ↦ refl
]

same_arguments : (command other : CommandName) → Some (name_text command) ≡ Some (name_text other) → arguments_of command ≡ arguments_of other
same_arguments command other e = ap (λ name. Rattle.std.specs.Option.unwrap_or name [] ∷ []) e

-- arguments that are none and name none, or are a command's and name it, are read by that name
by_name : (arguments : List Text) (name : Option Text) (read : Option CommandName)
    → ((arguments ≡ []) × (name ≡ None)) ⊎ ((command : CommandName) × (arguments ≡ arguments_of command) × (name ≡ Some (name_text command)))
    → IsNamed name read → IsNameAlone arguments read
by_name arguments name None (inl none) named = λ command is. true≢false (ap is_empty (sym none.0 ∙ is))
by_name arguments name (Some command) (inl none) named = absurd (some_is_not_none (sym none.1 ∙ named))
by_name arguments name None (inr found) named = absurd (named found.0 found.2)
by_name arguments name (Some command) (inr found) named = found.1 ∙ same_arguments found.0 command (sym found.2 ∙ named)

-- arguments that clap takes are read by the name of the subcommand that it met
pub taken : (app : App) → app ≡ program → (arguments : List Text) → has_dashes arguments ≡ false → (matches : ArgMatches)
    → (is_simple_and_free app ≡ true → fault_of app arguments ≡ []) → HasMatchesOf app arguments matches
    → (read : Option CommandName) → IsNamed (subcommand_name_of matches) read → IsNameAlone arguments read
taken app is arguments undashed matches faults has_matches read =
    let none : fault_of program arguments ≡ [] = ap (λ a. fault_of a arguments) (sym is) ∙ faults (ap is_simple_and_free is ∙ is_simple_program) in
    let name : subcommand_name_of matches ≡ name_in (subcommand_of program arguments) =
    name_of_matches matches ∙ ap name_in ((has_matches (ap is_simple is ∙ refl)).1 ∙ ap (λ a. subcommand_of a arguments) is) in
    let name_at : (words : List Text) → arguments ≡ words → subcommand_name_of matches ≡ name_in (subcommand_of program words) =
    λ words same. name ∙ ap (λ w. name_in (subcommand_of program w)) same in
    by_name arguments (subcommand_name_of matches) read (elim (faultless arguments undashed none) [
      | inl empty ↦ inl (empty, name_at [] empty ∙ names_none)
      | inr found ↦ inr (found.0, found.1, name_at (arguments_of found.0) found.1 ∙ names_command found.0)
    ])

-- arguments that clap refuses, but for want of memory, are no command's
pub refused : {E : Type 0} (app : App) → app ≡ program → (arguments : List Text) (kind : ErrorKind) → (takes app arguments ≡ true → kind ≡ OutOfMemory)
    → (answer : Result (Option CommandName) E) → IfOk answer (λ read. (read ≡ None) × (kind ≢ OutOfMemory)) → IfOk answer (IsNameAlone arguments)
refused app is arguments kind passes (Err e) h = tt
refused app is arguments kind passes (Ok (Some command)) h = absurd (some_is_not_none (sym h.0))
refused app is arguments kind passes (Ok None) h = λ command named. h.1 (passes (ap₂ takes is named ∙ takes_command command))
