-- What a write to the log leaves of the database under it.
use Rattle.std.specs.Prelude.{◌≡◌, ℕ, Option, Some, None, List, length}
use Rattle.database_file.specs.DatabaseFile.{FitsShape, KeepsDifferences, as_read}
use Rattle.database_under_log.specs.Over.{Agrees}
use Rattle.lf_sqlite_pages.specs.Apply.{apply}
use Rattle.lf_sqlite_pages.specs.Change.{PageChange}
use Rattle.lf_sqlite_pages.specs.Image.{DatabaseImage, SameImage}
use Rattle.file_view.specs.declared.view.Scene.{Scene}
use Rattle.file_view.specs.Endings.{committed}
use Rattle.file_view.specs.LogRules.{FollowsImage, LogDone}
use Rattle.file_view.specs.Served.{Served, log_contents}

-- the files stand over a committed image: what the database file keeps differs from the image and fits it, and the file under the
-- log is the image
pub record StandsOver (s : Served) (image : DatabaseImage) : Type 0 where
  pub differs : KeepsDifferences s.database image
  pub fits : FitsShape s.database image.page_size (length image.pages)
  pub follows : FollowsImage (log_contents s) image.page_size (length image.pages)
  pub agrees : Agrees s.database image (log_contents s)

-- once the write that waits is done, the files stand over the image with its change, and the database file reads as it did
pub record CommitsOver (old : Served) (image : DatabaseImage) (change : PageChange) (new : Served) : Type 0 where
  pub stands : StandsOver (committed new) (apply image change)
  pub reads : SameImage (as_read (committed new).database (apply image change)) (as_read old.database image)

-- what a write to the log leaves over an image: the files stand over it where the write is done, else over it with the change once
-- that is committed
abbrev pub KeepsOver : Served → DatabaseImage → Option PageChange → Served → Type 0
KeepsOver old image None new = StandsOver new image
KeepsOver old image (Some change) new = CommitsOver old image change new

-- the law of that
abbrev pub LogWriteKeeps : Type 0
LogWriteKeeps = (old new : Served) (scene : Scene) (image : DatabaseImage) (at : ℕ) (bytes : List ℕ) (change : Option PageChange) →
    scene.page_size ≡ image.page_size → scene.commit ≡ length image.pages → StandsOver old image → LogDone (Some image) old scene at bytes change new →
    KeepsOver old image change new
