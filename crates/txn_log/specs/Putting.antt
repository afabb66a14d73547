-- A transaction file is put into the log, and its change written over the database file.
use Rattle.std.specs.Prelude.{◌≡◌, ◌⊎◌, ℕ, Bool, true, false, List, [], ◌∷◌}
use Rattle.lf_disk.specs.declared.name.FileName.TheVariants.{Database}
use Rattle.lf_disk.specs.Folder.{Folder, bytes_of, Same}
use Rattle.lf_disk.specs.History.{History, now, may_leave}
use Rattle.lf_disk.specs.Publish.{IsStaged}
use Rattle.lf_sqlite_pages.specs.Image.{DatabaseImage}
use Rattle.lf_sqlite_pages.specs.Change.{PageChange, IsChange}
use Rattle.txn_log.specs.Kept.{LogFile, encoded_change, Kept, Shows, IsComplete, IsBySnapshot}

-- nothing is pending
abbrev pub IsSettled : History → Type 0
IsSettled h = (c : Folder) → may_leave h c → Same (now h) c

-- over a store at rest the encoding of a complete change is staged
pub record IsReady (image : DatabaseImage) (files : List LogFile) (dropped : Bool) (encoding : List ℕ) (change : PageChange) (h : History) : Type 0 where
  pub before : Folder
  pub staged : IsStaged before encoding h
  pub kept : Kept image files dropped before
  pub shows : Shows image (bytes_of (before Database))
  pub tells : encoded_change encoding ≡ change
  pub valid : IsChange change
  pub complete : IsComplete image change

-- the folder holds the one image and log, or the other
abbrev pub IsBeforeOrAfter : DatabaseImage → List LogFile → DatabaseImage → List LogFile → Folder → Type 0
IsBeforeOrAfter image files image' files' c = Kept image files false c ⊎ Kept image' files' false c

-- the folder holds a dropped database, or this file, as a snapshot or as the log
abbrev pub IsDroppedOrAnew : DatabaseImage → LogFile → Folder → Type 0
IsDroppedOrAnew image file c = Kept record { page_size = 0; pages = [] } [] true c ⊎ (IsBySnapshot image file.encoding c ⊎ Kept image (file ∷ []) false c)
