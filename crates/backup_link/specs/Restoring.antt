-- A backup that is opened and restored.
use Rattle.std.specs.Prelude.{◌≡◌, ℕ, Result, Err}
use Rattle.lf_disk.specs.Folder.{Folder}
use Rattle.lf_sqlite_pages.specs.Image.{DatabaseImage}
use Rattle.ltx_backup.specs.Levels.{Levels, Holds}
use Rattle.ltx_backup.specs.Opening.{WhyClosed}
use Rattle.ltx_backup.specs.Restoring.{Restores}
use Rattle.ltx_backup.specs.declared.fault.BackupFault.{BackupFault}

-- three folders hold these levels, and no others
pub record HoldsAlone (levels : Levels) (low middle high : Folder) : Type 0 where
  pub holds : Holds levels low middle high
  pub alone : (others : Levels) → Holds others low middle high → others ≡ levels

-- WHAT RESTORING TO A TRANSACTION COMES TO: what the levels that the folders held, and hold, give; or the folders are no backup
pub data HasRestored (low middle high low_now middle_now high_now : Folder) (txid : ℕ) (result : Result DatabaseImage BackupFault) : Type 0 where
  held : (levels : Levels) → HoldsAlone levels low middle high → Holds levels low_now middle_now high_now → Restores levels txid result
      → HasRestored low middle high low_now middle_now high_now txid result
  no_backup : (why : BackupFault) → result ≡ Err why → WhyClosed low middle high why → HasRestored low middle high low_now middle_now high_now txid result
