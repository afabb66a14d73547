-- What adding a file answers.
use Rattle.std.specs.Prelude.{◌≡◌, ◌≢◌, ◌⊎◌, Bool, true, false, Result, Ok, Err}
use Rattle.lf_base.specs.declared.pos.Pos.{Pos}
use Rattle.lf_disk.specs.Folder.{Folder}
use Rattle.ltx_codec.specs.Positions.{before, after}
use Rattle.ltx_codec.specs.declared.file.Ltx.{Ltx}
use Rattle.ltx_backup.specs.Levels.{Levels, Holds}
use Rattle.ltx_backup.specs.declared.fault.BackupFault.{BackupFault}
use Rattle.ltx_backup.specs.declared.fault.BackupFault.TheVariants as fault

-- A file is taken that begins at the first transaction or at the backup's end. The answer is where it ends
abbrev pub Adds : Bool → Pos → Ltx → Result Pos BackupFault → Type 0
Adds broken end file (Ok here) = (broken ≡ false) × ((file.header.min ≡ 1) ⊎ (before file ≡ end)) × (here ≡ after file)
Adds broken end file (Err (fault.NotNext have want)) =
    (broken ≡ false) × (file.header.min ≢ 1) × (have ≡ end) × (want ≡ before file) × (want ≢ have)
Adds broken end file (Err fault.Broken) = broken ≡ true
Adds broken end file (Err fault.Disk) = broken ≡ false
Adds broken end file (Err fault.NoMemory) = broken ≡ false
Adds broken end file (Err _) = ⊥

-- a call that changes something leaves the backup broken where it was or where a disk failed
abbrev pub Breaks : {T : Type 0} → Bool → Result T BackupFault → Bool → Type 0
Breaks before (Err fault.Disk) now = now ≡ true
Breaks before _ now = now ≡ before

-- three folders hold what there was before a call, or what there is after it
abbrev pub HoldsEither : (old new : Levels) → (low middle high : Folder) → Type 0
HoldsEither old new low middle high = Holds old low middle high ⊎ Holds new low middle high
