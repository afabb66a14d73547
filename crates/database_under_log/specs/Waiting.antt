-- A write to the log that waits for its commit.
use Rattle.std.specs.Prelude.{◌≡◌, ◌≢◌, ℕ, ◌<◌, true, None, List, length, take}
use Rattle.lf_base.specs.FileBytes.{written}
use Rattle.lf_sqlite_pages.specs.Apply.{apply}
use Rattle.lf_sqlite_pages.specs.Blocks.{IsWithin}
use Rattle.lf_sqlite_pages.specs.Change.{PageChange}
use Rattle.lf_sqlite_pages.specs.Image.{DatabaseImage}
use Rattle.lf_sqlite_pages.specs.LockPage.{IsWithinLimit}
use Rattle.wal_watch.specs.File.{Wal, contents_of, after_write, with_room}
use Rattle.wal_watch.specs.Refusals.{KeepsCommitted}
use Rattle.wal_watch.specs.Frames.{page_size_in, committed_count}
use Rattle.wal_watch.specs.News.{first_new, change_between, last_size}
use Rattle.database_file.specs.DatabaseFile.{DatabaseFile, FitsShape, as_read, is_clean}
use Rattle.database_under_log.specs.LogChange.{log_change}
use Rattle.database_under_log.specs.Over.{over, Agrees}
use Rattle.database_under_log.specs.Staying.{finished, forgotten, StaysAsRead}
use Rattle.database_under_log.specs.declared.waiting.LogCommit.{LogCommit}
use Rattle.database_under_log.specs.declared.waiting.LogWrite.{LogWrite}
use Rattle.database_under_log.specs.declared.waiting.LogWrite.TheVariants.{Stored, Waiting}

-- what is ready over every store once a write of bytes waits: its change, the write itself, and the file, which can go on or
-- back, over an image of a page size and a number of pages
pub record IsReady (old new : DatabaseFile) (contents : List ℕ) (page_size commit at : ℕ) (bytes : List ℕ) (c : LogCommit) : Type 0 where
  pub more : first_new contents (written at bytes contents) < committed_count (written at bytes contents)
  pub change : c.change ≡ log_change old contents (written at bytes contents) commit
  pub at_is : c.write.at ≡ at
  pub bytes_are : c.write.bytes ≡ bytes
  pub back : forgotten new c.write ≡ old
  pub fits : FitsShape new page_size commit
  pub later : FitsShape (finished new c.write) c.change.page_size c.change.commit

-- a change leads to the database under the log's new bytes; over that image a later file reads as the old one did over the old
-- image, and agrees with the log
pub record LeadsUnderLog (old : DatabaseFile) (image : DatabaseImage) (contents : List ℕ) (change : PageChange) (later : DatabaseFile) : Type 0 where
  pub leads : apply image change ≡ over (as_read old image) contents
  pub stays : StaysAsRead old image later (apply image change)
  pub agrees : Agrees later (apply image change) contents

-- and over the image, where that is told: the file reads as before while the write waits, and its change leads on to the file
-- once it is finished
pub record WaitsOver (old new : DatabaseFile) (image : DatabaseImage) (contents : List ℕ) (c : LogCommit) : Type 0 where
  pub reads : as_read new image ≡ as_read old image
  pub led : LeadsUnderLog old image contents c.change (finished new c.write)

-- the log reads as before, and has room for the write
pub record HasRoomFor (old new : Wal) (at : ℕ) (bytes : List ℕ) : Type 0 where
  pub contents : new.contents ≡ old.contents
  pub room : IsWithin new.room at (length bytes)

-- a write may change the log's header only over a file that is the image
abbrev pub MayChangeHeader : DatabaseFile → List ℕ → List ℕ → Type 0
MayChangeHeader file old new = take 32 new ≢ take 32 old → is_clean file ≡ true

-- a write that is done commits nothing, and leaves the file
pub record IsStored (old new : DatabaseFile) (log later : Wal) (at : ℕ) (bytes : List ℕ) : Type 0 where
  pub file : new ≡ old
  pub log_is : later ≡ after_write (with_room log at (length bytes)) at bytes
  pub none : change_between (contents_of log) (contents_of later) ≡ None
  pub kept : KeepsCommitted (contents_of log) (contents_of later)

-- what a write is, over every store
abbrev pub IsPrepared : DatabaseFile → DatabaseFile → Wal → Wal → ℕ → ℕ → ℕ → List ℕ → LogWrite → Type 0
IsPrepared old new log later page_size commit at bytes Stored = IsStored old new log later at bytes
IsPrepared old new log later page_size commit at bytes (Waiting c) =
    IsReady old new (contents_of log) page_size commit at bytes c × HasRoomFor log later at bytes

-- one that waits commits no more pages than a database may have
abbrev pub IsLimited : List ℕ → LogWrite → Type 0
IsLimited contents Stored = Unit {0}
IsLimited contents (Waiting c) = IsWithinLimit (page_size_in contents) (last_size contents)

-- and over the image, where that is told
abbrev pub IsPreparedOver : DatabaseFile → DatabaseFile → DatabaseImage → List ℕ → LogWrite → Type 0
IsPreparedOver old new image contents Stored = Agrees old image contents
IsPreparedOver old new image contents (Waiting c) = WaitsOver old new image contents c
