-- The files that a folder of the system keeps open.
use Rattle.std.specs.Prelude.{◌≡◌, Bool, false, is_some}
use Rattle.lf_disk.specs.declared.name.FileName.{FileName}
use Rattle.lf_disk.specs.declared.name.FileName.TheVariants.{Database, Staged, Snapshot, Dropped, Ltx}
use Rattle.lf_disk.specs.declared.dir_disk.kept.Kept.{Kept}

-- whether a handle is kept of a name
abbrev pub is_kept : FileName → Kept → Bool
is_kept Database kept = is_some kept.database
is_kept Staged kept = is_some kept.staged
is_kept Snapshot kept = false
is_kept Dropped kept = false
is_kept (Ltx min max) kept = false

-- no handle is kept of a name
abbrev pub IsClosed : FileName → Kept → Type 0
IsClosed name kept = is_kept name kept ≡ false

-- none is kept of this name afterwards, and of no name where none was kept before
pub record Closes (name : FileName) (old new : Kept) : Type 0 where
  pub closed : IsClosed name new
  pub others : (other : FileName) → IsClosed other old → IsClosed other new
