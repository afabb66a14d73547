-- The words of the command line: a command's name, and behind it nothing, a number, or the options that say where a database is found; and of a
-- program that is to be run the words of its own.
use Rattle.std.specs.Prelude.{◌≡◌, ◌≢◌, ◌⊎◌, ℕ, ◌<◌, ◌^◌, List, [], ◌∷◌, ◌++◌, codes, Option, MatchOption}
use Rattle.std.specs.Str.Parse.{IsNumeral, digits_value}
use Rattle.backup_link.specs.LevelNames.{HasRoom}
use Rattle.lf_base.specs.Hex.{hex_digits}
use Rattle.lf_base.specs.Name.{IsName}
use Rattle.litefs_tool.specs.declared.command.Command.{Command}
use Rattle.litefs_tool.specs.declared.command.Command.TheVariants.{Apply, Compact, Mount, Lease, Export, Import, Drill, Backup, Restore, Run}
use Rattle.litefs_tool.specs.declared.naming.CommandName.{CommandName}
use Rattle.litefs_tool.specs.declared.naming.CommandName.TheVariants as name
use Rattle.litefs_tool.specs.declared.remote.Remote.{Remote}
use Rattle.litefs_tool.specs.declared.task.Task.{Task}

abbrev pub Words : Type 0
Words = List (List ℕ)

-- a name of a command, as it is written
abbrev pub name_text : CommandName → List ℕ
name_text name.Apply = codes "apply"
name_text name.Compact = codes "compact"
name_text name.Mount = codes "mount"
name_text name.Lease = codes "lease"
name_text name.Export = codes "export"
name_text name.Import = codes "import"
name_text name.Drill = codes "drill"
name_text name.Backup = codes "backup"
name_text name.Restore = codes "restore"
name_text name.Run = codes "run"

-- a command's name
abbrev pub name_of : Command → CommandName
name_of Apply = name.Apply
name_of Compact = name.Compact
name_of Mount = name.Mount
name_of Lease = name.Lease
name_of (Export remote) = name.Export
name_of (Import remote) = name.Import
name_of (Drill number) = name.Drill
name_of (Backup remote) = name.Backup
name_of (Restore database txid) = name.Restore
name_of (Run task) = name.Run

-- a value of an option: it begins with another byte than `-`
abbrev pub IsValue : List ℕ → Type 0
IsValue [] = ⊥
IsValue (first ∷ rest) = first ≢ 45

-- an option with its value, as two words, or as one with `=` between
pub data IsOption (flag value : List ℕ) (words : Words) : Type 0 where
  apart : words ≡ flag ∷ value ∷ [] → IsValue value → IsOption flag value words
  joined : words ≡ (flag ++ 61 ∷ value) ∷ [] → IsValue value → IsOption flag value words

-- the options of two flags with their values, in any order, each once
pub data SaysBoth (first second one other : List ℕ) (words : Words) : Type 0 where
  in_order : (front back : Words) → words ≡ front ++ back → IsOption first one front → IsOption second other back → SaysBoth first second one other words
  turned : (front back : Words) → words ≡ front ++ back → IsOption second other front → IsOption first one back → SaysBoth first second one other words

-- words begin with the options of two flags, and the rest stands behind them
abbrev pub BeginsWithBoth : (first second one other : List ℕ) → (words rest : Words) → Type 0
BeginsWithBoth first second one other words rest = (options : Words) × SaysBoth first second one other options × (words ≡ options ++ rest)

-- no word begins with both flags
abbrev pub AreApart : List ℕ → List ℕ → Type 0
AreApart first second = (front back : List ℕ) → first ++ front ≢ second ++ back

-- the options `--name` and `--addr`; the address is that of this machine's node where none is given
pub data SaysValues (name address : List ℕ) (words : Words) : Type 0 where
  alone : IsOption (codes "--name") name words → address ≡ codes "localhost:20202" → SaysValues name address words
  both : SaysBoth (codes "--name") (codes "--addr") name address words → SaysValues name address words

-- the address that is dialed, of one that was given: `http://` before it is passed over
abbrev pub IsAddressIn : List ℕ → List ℕ → Type 0
IsAddressIn given address = (given ≡ codes "http://" ++ address) ⊎ (((rest : List ℕ) → given ≢ codes "http://" ++ rest) × (address ≡ given))

-- the word is this name of a database, or no name
abbrev pub IsNameRead : List ℕ → Option (List ℕ) → Type 0
IsNameRead word read = MatchOption read (IsName word → ⊥) (λ name. (name ≡ word) × IsName word)

-- words that say where a database is found
pub record SaysRemote (remote : Remote) (words : Words) : Type 0 where
  pub given : List ℕ
  pub values : SaysValues remote.name given words
  pub name : IsName remote.name
  pub address : IsAddressIn given remote.address

-- words that say where a database is found, or don't
abbrev pub IsRemoteRead : Words → Option Remote → Type 0
IsRemoteRead words read = MatchOption read ((remote : Remote) → SaysRemote remote words → ⊥) (λ remote. SaysRemote remote words)

-- words that are one number: decimal digits alone, which say less than 2^64
pub record SaysNumber (number : ℕ) (words : Words) : Type 0 where
  pub digits : List ℕ
  pub alone : words ≡ digits ∷ []
  pub numeral : IsNumeral 10 digits
  pub value : digits_value 10 digits ≡ number
  pub within : number < 2 ^ 64

-- words that say a number, or don't
abbrev pub IsNumberRead : Words → Option ℕ → Type 0
IsNumberRead words read = MatchOption read ((number : ℕ) → SaysNumber number words → ⊥) (λ number. SaysNumber number words)

-- words that say what is backed up, and where it is found
abbrev pub SaysBackup : Remote → Words → Type 0
SaysBackup remote words = SaysRemote remote words × HasRoom remote.name

-- words that say what is backed up, or don't
abbrev pub IsBackupRead : Words → Option Remote → Type 0
IsBackupRead words read = MatchOption read ((remote : Remote) → SaysBackup remote words → ⊥) (λ remote. SaysBackup remote words)

-- words that say what is restored, and to which transaction: 16 hexadecimal digits in lower case
pub record SaysRestore (name : List ℕ) (txid : ℕ) (words : Words) : Type 0 where
  pub values : SaysBoth (codes "--name") (codes "--txid") name (hex_digits 16 txid) words
  pub is_name : IsName name
  pub room : HasRoom name
  pub within : txid < 2 ^ 64

-- words that say what is restored, or don't
abbrev pub IsRestoreRead : Words → Option (List ℕ × ℕ) → Type 0
IsRestoreRead words read =
    MatchOption read ((name : List ℕ) (txid : ℕ) → SaysRestore name txid words → ⊥) (λ point. SaysRestore point.0 point.1 words)

-- WORDS THAT SAY WHAT IS RUN: the options `--socket` and `--name`, then `--`, then the words of the program, `--` among them too. The socket has no
-- default
pub record SaysTask (task : Task) (words : Words) : Type 0 where
  pub socket : List ℕ
  pub options : BeginsWithBoth (codes "--socket") (codes "--name") socket task.name words (codes "--" ∷ task.words)
  pub is_name : IsName task.name
  pub some : task.words ≢ []
  pub address : task.address ≡ codes "unix:" ++ socket

-- words that say what is run, or don't
abbrev pub IsTaskRead : Words → Option Task → Type 0
IsTaskRead words read = MatchOption read ((task : Task) → SaysTask task words → ⊥) (λ task. SaysTask task words)

-- what stands behind a command's name
abbrev pub Follows : Command → Words → Type 0
Follows (Export remote) words = SaysRemote remote words
Follows (Import remote) words = SaysRemote remote words
Follows (Drill number) words = SaysNumber number words
Follows (Backup remote) words = SaysBackup remote words
Follows (Restore name txid) words = SaysRestore name txid words
Follows (Run task) words = SaysTask task words
Follows command words = words ≡ []

-- THE ARGUMENTS OF A COMMAND: its name, and what stands behind it
abbrev pub Spells : Words → Command → Type 0
Spells arguments command = (words : Words) × (arguments ≡ name_text (name_of command) ∷ words) × Follows command words

-- the arguments are this command's, or no command's
abbrev pub IsReadAs : Words → Option Command → Type 0
IsReadAs arguments read = MatchOption read ((command : Command) → Spells arguments command → ⊥) (λ command. Spells arguments command)

-- the word is this command's name, or no command's
abbrev pub IsNamedBy : List ℕ → Option CommandName → Type 0
IsNamedBy word read = MatchOption read ((name : CommandName) → word ≢ name_text name) (λ name. word ≡ name_text name)
