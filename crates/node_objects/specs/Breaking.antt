-- The line of a store that broke.
use Rattle.std.specs.Prelude.{ℕ, ◌+◌, ◌/◌, ◌%◌, ◌==◌, List, [], ◌∷◌, ◌++◌, codes, Option, Some, None, if◌then◌else◌}
use Rattle.lf_base.specs.declared.errno.Errno.{Errno}
use Rattle.lf_base.specs.Hex.{hex_digits}
use Rattle.lf_disk.specs.declared.name.FileName.{FileName}
use Rattle.lf_disk.specs.declared.name.FileName.TheVariants as name
use Rattle.node_objects.specs.Lines.{shown}
use Rattle.node_objects.specs.declared.failing.DiskCall.{DiskCall}
use Rattle.node_objects.specs.declared.failing.DiskCall.TheVariants as call
use Rattle.node_objects.specs.declared.failing.FailedCall.{FailedCall}

-- what a call is to do
abbrev pub call_words : DiskCall → List ℕ
call_words call.Size = codes "look at"
call_words call.Read = codes "read"
call_words call.Write = codes "write"
call_words call.Cut = codes "cut"
call_words call.Sync = codes "sync"
call_words call.Rename = codes "rename"
call_words call.Remove = codes "remove"
call_words call.List = codes "list"

-- a file below the data directory
abbrev pub file_path : Option FileName → List ℕ
file_path None = []
file_path (Some name.Database) = codes "/database"
file_path (Some name.Staged) = codes "/ltx/.staged"
file_path (Some name.Snapshot) = codes "/snapshot.ltx"
file_path (Some name.Dropped) = codes "/dropped"
file_path (Some (name.Ltx min max)) = codes "/ltx/" ++ shown (hex_digits 16 min) ++ codes "-" ++ shown (hex_digits 16 max) ++ codes ".ltx"

-- an error of the system in words (errno(3)): those that a disk gives where it has no room, fails or takes no writes, and those of
-- paths and addresses on which nobody can listen
abbrev pub error_words : Errno → List ℕ
error_words number =
    if number.0 == 2 then codes "no such file or directory, "
    else if number.0 == 5 then codes "input/output error, "
    else if number.0 == 13 then codes "permission denied, "
    else if number.0 == 20 then codes "not a directory, "
    else if number.0 == 24 then codes "too many open files, "
    else if number.0 == 28 then codes "no space left, "
    else if number.0 == 30 then codes "read-only file system, "
    else if number.0 == 98 then codes "address in use, "
    else if number.0 == 99 then codes "no address of this machine, "
    else if number.0 == 122 then codes "quota exceeded, "
    else []

-- the last digit of a number, in decimal, and its last three
abbrev pub digit_of : ℕ → ℕ
digit_of number = 48 + number % 10

abbrev pub digits_of : Errno → List ℕ
digits_of number = digit_of (number.0 / 100) ∷ digit_of (number.0 / 10) ∷ digit_of number.0 ∷ []

-- what the system said
abbrev pub reason : Option Errno → List ℕ
reason None = []
reason (Some number) = codes ": " ++ error_words number ++ codes "errno " ++ digits_of number

-- WHAT IS TOLD OF A STORE OF THIS DATABASE THAT BROKE: the call that failed, where it is known
abbrev pub broken_line : (database : List ℕ) → Option FailedCall → List ℕ
broken_line database None = codes "store broken"
broken_line database (Some failed) =
    codes "store broken: cannot " ++ shown (call_words failed.call) ++ codes " dbs/" ++ shown database ++ file_path failed.file ++ shown (reason failed.error)
