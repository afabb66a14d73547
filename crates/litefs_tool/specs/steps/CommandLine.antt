-- A command's name as clap is told it.
use Rattle.std.specs.Prelude.{◌≡◌, ◌≢◌, ℕ, List, [], ◌∷◌, codes, true, MatchOption, Option, Some}
use Rattle.clap.specs.Simple.{App, Shape, new_app, new_shape, on_top, with_subcommand}
use Rattle.litefs_tool.specs.Words.{name_text}
use Rattle.litefs_tool.specs.declared.naming.CommandName.{CommandName}

-- all words are arguments, and none asks for help
abbrev pub bare : Shape → Shape
bare shape = record shape { no_binary_name = true; disable_help_flag = true; disable_help_subcommand = true }

abbrev pub with_name : App → List ℕ → App
with_name app name = with_subcommand app (new_shape name)

-- the program with the commands on LTX files
abbrev pub files_program : App
files_program = with_name (with_name (on_top bare (new_app (codes "litefs"))) (codes "apply")) (codes "compact")

-- and with those that serve
abbrev pub serving_program : App
serving_program = with_name (with_name files_program (codes "mount")) (codes "lease")

-- and with those that ask a node
abbrev pub asking_program : App
asking_program = with_name (with_name serving_program (codes "export")) (codes "import")

-- and with the drill, and the first on a backup
abbrev pub playing_program : App
playing_program = with_name (with_name asking_program (codes "drill")) (codes "backup")

-- the program, with a subcommand for each command
abbrev pub program : App
program = with_name (with_name playing_program (codes "restore")) (codes "run")

-- the name alone
abbrev pub arguments_of : CommandName → List (List ℕ)
arguments_of name = name_text name ∷ []

-- words are a command's name alone, or no command's
abbrev pub IsNameAlone : List (List ℕ) → Option CommandName → Type 0
IsNameAlone words read = MatchOption read ((name : CommandName) → words ≢ arguments_of name) (λ name. words ≡ arguments_of name)

-- the name is this command's, or no command's
abbrev pub IsNamed : Option (List ℕ) → Option CommandName → Type 0
IsNamed name read = MatchOption read ((command : CommandName) → name ≢ Some (name_text command)) (λ command. name ≡ Some (name_text command))
