-- The database file while and after a change is written over it.
use Rattle.std.specs.Prelude.{◌≡◌, ◌*◌, false, Some}
use Rattle.lf_disk.specs.declared.name.FileName.{FileName}
use Rattle.lf_disk.specs.declared.name.FileName.TheVariants.{Database, Staged}
use Rattle.lf_base.specs.FileBytes.{resized}
use Rattle.lf_disk.specs.Folder.{Folder, bytes_of, same_name, SameBut}
use Rattle.lf_disk.specs.History.{History, now, IsSettledBut}
use Rattle.lf_sqlite_pages.specs.Change.{PageChange}
use Rattle.txn_log.specs.Pages.{Wears, patched}

-- In the database file only pages of the change, and what is past its size, may differ. The staged file is of no account.
pub record IsWorn (change : PageChange) (before c : Folder) : Type 0 where
  pub database : Wears change (before Database) (c Database)
  pub others : (n : FileName) → same_name n Database ≡ false → same_name n Staged ≡ false → c n ≡ before n

-- the change is written, and a crash leaves that alone
pub record IsRewritten (change : PageChange) (before : Folder) (h : History) : Type 0 where
  pub database : now h Database ≡ Some (resized (change.commit * change.page_size) (patched change.page_size (bytes_of (before Database)) change.pages))
  pub others : SameBut Database before (now h)
  pub settled : IsSettledBut Staged h
