-- The rest of an install and of a drop: what a snapshot or a mark decides gets its last form.
use Rattle.std.specs.Prelude.{◌≡◌, ◌⊎◌, ℕ, ◌≤◌, false, List, [], ◌∷◌, length, take, fold, None}
use Rattle.lf_disk.specs.declared.name.FileName.TheVariants.{Staged, Ltx as LtxName}
use Rattle.lf_disk.specs.Folder.{Folder, with_file, Same, SameBut}
use Rattle.lf_disk.specs.History.{History, now, IsSettledBut}
use Rattle.lf_sqlite_pages.specs.Image.{DatabaseImage}
use Rattle.lf_sqlite_pages.specs.Change.{PageChange}
use Rattle.txn_log.specs.declared.entry.Entry.{Entry}
use Rattle.txn_log.specs.Kept.{LogFile, encoded_change, Kept, IsBySnapshot}

-- the folder without the files of these entries
abbrev pub without : List Entry → Folder → Folder
without entries folder = fold (λ f e. with_file (LtxName e.min e.max) None f) folder entries

-- the folder has no transaction file but those of these entries
abbrev pub HasNoOthers : List Entry → Folder → Type 0
HasNoOthers entries folder = (a b : ℕ) → without entries folder (LtxName a b) ≡ None

-- some of the first files are gone, and nothing else has changed but the staged file
pub record IsThinned (entries : List Entry) (before c : Folder) : Type 0 where
  pub gone : ℕ
  pub no_more : gone ≤ length entries
  pub rest : SameBut Staged (without (take gone entries) before) c

-- the files are gone, and a crash leaves that alone
pub record IsCleared (entries : List Entry) (before : Folder) (h : History) : Type 0 where
  pub seen : Same (without entries before) (now h)
  pub settled : IsSettledBut Staged h

-- a snapshot with this change decides the image, and the transaction files are those of these entries
pub record IsUnsettled (image : DatabaseImage) (encoding : List ℕ) (entries : List Entry) (change : PageChange) (f : Folder) : Type 0 where
  pub by : IsBySnapshot image encoding f
  pub tells : encoded_change encoding ≡ change
  pub others : HasNoOthers entries f

-- the file decides as a snapshot, or is the log
abbrev pub IsInstalled : DatabaseImage → LogFile → Folder → Type 0
IsInstalled image file c = IsBySnapshot image file.encoding c ⊎ Kept image (file ∷ []) false c
