-- What files that are added make of a backup.
use Rattle.std.specs.Prelude.{List, [], ◌∷◌, Result, Err}
use Rattle.lf_disk.specs.History.{History}
use Rattle.ltx_codec.specs.declared.file.Ltx.{Ltx}
use Rattle.ltx_backup.specs.Entries.{IsKept}
use Rattle.ltx_backup.specs.Levels.{Levels}
use Rattle.ltx_backup.specs.Stored.{added}
use Rattle.ltx_backup.specs.declared.entry.Index.{Index}
use Rattle.ltx_backup.specs.declared.fault.BackupFault.{BackupFault}
use Rattle.ltx_backup.specs.declared.fault.BackupFault.TheVariants as fault

-- a backup between two calls: its index, and the histories of its disks
pub record Shelf : Type 1 where
  pub index : Index
  pub low : History
  pub middle : History
  pub high : History

-- the levels with files added, one after another
abbrev pub all_added : Levels → List Ltx → Levels
all_added levels [] = levels
all_added levels (file ∷ files) = all_added (added levels file) files

-- where the disks are honest, what was kept is kept with these files added, one after another
abbrev pub KeepsAdded : Type 0 → Shelf → Shelf → List Ltx → Type 0
KeepsAdded honest old new files =
    honest → (levels : Levels) → IsKept levels old.index old.low old.middle old.high → IsKept (all_added levels files) new.index new.low new.middle new.high

-- a fact that a disk's failure takes away
abbrev pub ButForDisk : {T : Type 0} → Result T BackupFault → Type 0 → Type 0
ButForDisk (Err fault.Disk) fact = Unit {0}
ButForDisk _ fact = fact
