-- Compactions of a backup, one after another, until none is due.
use Rattle.std.specs.Prelude.{◌≡◌, ◌⊎◌, ℕ, Bool, true, false, List, Result, Ok, Err}
use Rattle.lf_disk.specs.Folder.{Folder}
use Rattle.lf_disk.specs.History.{History}
use Rattle.ltx_codec.specs.declared.file.Ltx.{Ltx}
use Rattle.ltx_backup.specs.Entries.{IsKept}
use Rattle.ltx_backup.specs.Folding.{IsDue, Settling, IsSettled}
use Rattle.ltx_backup.specs.Levels.{Levels, chain, Holds}
use Rattle.ltx_backup.specs.Moving.{IsUnfolded}
use Rattle.ltx_backup.specs.Restoring.{EndsWith, restored}
use Rattle.ltx_backup.specs.declared.entry.Index.{Index}
use Rattle.ltx_backup.specs.declared.fault.BackupFault.{BackupFault}
use Rattle.ltx_backup.specs.declared.fault.BackupFault.TheVariants as fault

-- So many compactions. With which transaction a file ends now, one ended before, with the same sum; and restoring to it
-- gives the same image.
pub record Settles (count : ℕ) (old new : Levels) : Type 0 where
  pub by : Settling count old new
  pub ends : (txid sum : ℕ) → EndsWith (chain new) txid sum → EndsWith (chain old) txid sum
  pub images : (txid sum : ℕ) → EndsWith (chain new) txid sum → restored (chain new) txid ≡ restored (chain old) txid

-- a backup keeps what so many compactions made of these levels
pub record KeepsSettled (count : ℕ) (old : Levels) (index : Index) (low middle high : History) : Type 0 where
  pub levels : Levels
  pub settles : Settles count old levels
  pub kept : IsKept levels index low middle high

-- three folders hold what some compactions made of these levels
pub record HoldsSettled (old : Levels) (low middle high : Folder) : Type 0 where
  pub count : ℕ
  pub levels : Levels
  pub settles : Settles count old levels
  pub holds : Holds levels low middle high

-- why no more is compacted: the eight oldest of the lowest level, where it is due, don't become one, else those of the next
abbrev pub IsStuck : Levels → BackupFault → Type 0
IsStuck levels why =
    IsDue levels.lows × IsUnfolded levels.lows why
    ⊎ (IsDue levels.lows → ⊥) × IsDue levels.middles × IsUnfolded levels.middles why

-- what one compaction of these files answers. After a refusal the backup keeps what it kept
abbrev pub FoldsOnce : {T : Type 0} → List Ltx → Levels → Result T BackupFault → Index → (low middle high : History) → Type 0
FoldsOnce files old (Ok _) index l m h = KeepsSettled 1 old index l m h
FoldsOnce files old (Err fault.Disk) index l m h = Unit {0}
FoldsOnce files old (Err why) index l m h = IsKept old index l m h × IsUnfolded files why

-- one compaction, where one is due
abbrev pub GoesOn : Levels → Result Bool BackupFault → Index → (low middle high : History) → Type 0
GoesOn old (Ok true) index l m h = KeepsSettled 1 old index l m h
GoesOn old (Ok false) index l m h = IsKept old index l m h × IsSettled old
GoesOn old (Err fault.Disk) index l m h = Unit {0}
GoesOn old (Err why) index l m h = IsKept old index l m h × IsStuck old why

-- WHAT SETTLING ANSWERS: how many compactions were made until none was due. After a refusal those that were made stay
abbrev pub HasSettled : Levels → Result ℕ BackupFault → Index → (low middle high : History) → Type 0
HasSettled old (Ok count) index l m h = (kept : KeepsSettled count old index l m h) × IsSettled kept.levels
HasSettled old (Err fault.Disk) index l m h = Unit {0}
HasSettled old (Err why) index l m h = (count : ℕ) × (kept : KeepsSettled count old index l m h) × IsStuck kept.levels why
