-- What is told where a data directory is damaged.
use Rattle.std.specs.Prelude.{ℕ, List, ◌++◌, codes, Option, Some, None}
use Rattle.lf_base.specs.Hex.{hex_digits}
use Rattle.lf_disk.specs.declared.name.FileName.{FileName}
use Rattle.node_recovery.specs.declared.fault.RecoverFault.{RecoverFault}
use Rattle.node_recovery.specs.declared.fault.RecoverFault.TheVariants as recovery
use Rattle.node_objects.specs.Breaking.{file_path}
use Rattle.node_objects.specs.Lines.{shown}

-- a number as 16 digits
abbrev pub number_words : ℕ → List ℕ
number_words number = shown (hex_digits 16 number)

-- WHAT IS TOLD of the data directory of this database: the damaged file, and the two numbers that differ
abbrev pub damage_line : (database : List ℕ) → FileName → (want got : ℕ) → List ℕ
damage_line database file want got =
    codes "damaged: dbs/" ++ shown database ++ file_path (Some file) ++ codes ": " ++ number_words want ++ codes " is wanted, " ++ number_words got ++ codes " is there"

abbrev pub unrecovered_line : (database : List ℕ) → RecoverFault → Option (List ℕ)
unrecovered_line database recovery.Disk = None
unrecovered_line database (recovery.Damaged file want got) = Some (damage_line database file want got)
unrecovered_line database recovery.NoMemory = None
