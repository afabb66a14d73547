-- What the code has of a write that waits before the log is looked at. No public clause cites it.
use Rattle.std.specs.Prelude.{◌≡◌, ℕ, List}
use Rattle.lf_sqlite_pages.specs.Apply.{apply}
use Rattle.lf_sqlite_pages.specs.Image.{DatabaseImage}
use Rattle.database_file.specs.DatabaseFile.{DatabaseFile, FitsShape, as_read}
use Rattle.database_under_log.specs.Staying.{finished, forgotten, StaysAsRead}
use Rattle.database_under_log.specs.declared.waiting.LogCommit.{LogCommit}

pub record IsHeld (old new : DatabaseFile) (page_size commit at : ℕ) (bytes : List ℕ) (c : LogCommit) : Type 0 where
  pub at_is : c.write.at ≡ at
  pub bytes_are : c.write.bytes ≡ bytes
  pub back : forgotten new c.write ≡ old
  pub fits : FitsShape new page_size commit
  pub later : FitsShape (finished new c.write) c.change.page_size c.change.commit

pub record Stays (old new : DatabaseFile) (image : DatabaseImage) (c : LogCommit) : Type 0 where
  pub reads : as_read new image ≡ as_read old image
  pub stays : StaysAsRead old image (finished new c.write) (apply image c.change)
