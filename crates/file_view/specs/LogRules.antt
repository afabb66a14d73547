-- WRITE, SETATTR of a size and UNLINK of the log.
use Rattle.std.specs.Prelude.{◌≡◌, ℕ, ◌+◌, ◌<◌, ◌==◌, Bool, true, false, ◌&&◌, ◌||◌, not, is_some, nat_lt, nat_le, Option, Some, None, IfSome, List, [], ◌∷◌, length, take}
use Rattle.std.specs.Str.{bytes_eq}
use Rattle.byte_locks.specs.declared.lock_id.LockId.TheVariants as lock
use Rattle.byte_locks.specs.LockList.{LockList}
use Rattle.database_file.specs.DatabaseFile.{DatabaseFile, FitsShape, KeepsDifferences, is_clean}
use Rattle.database_under_log.specs.Fault.{wanted_size}
use Rattle.database_under_log.specs.LogChange.{log_change}
use Rattle.database_under_log.specs.Over.{Agrees}
use Rattle.database_under_log.specs.Waiting.{LeadsUnderLog}
use Rattle.journal_watch.specs.Journal.{is_active}
use Rattle.lf_base.specs.FileBytes.{resized, written}
use Rattle.lf_sqlite_pages.specs.Apply.{apply}
use Rattle.lf_sqlite_pages.specs.Change.{PageChange}
use Rattle.lf_sqlite_pages.specs.Image.{DatabaseImage, SameImage}
use Rattle.lf_sqlite_pages.specs.LockPage.{is_past_limit}
use Rattle.wal_watch.specs.Frames.{is_header, page_size_in, committed_count, committed_end}
use Rattle.wal_watch.specs.News.{first_new, last_size}
use Rattle.file_view.specs.declared.view.Scene.{Scene}
use Rattle.file_view.specs.Acting.{writes}
use Rattle.file_view.specs.DatabaseState.{HeldWrite}
use Rattle.file_view.specs.Errno.{EPERM, EIO, EAGAIN, EACCES, EINVAL, EFBIG, ENOSPC, EROFS}
use Rattle.file_view.specs.Refusal.{Row}
use Rattle.file_view.specs.Roles.{is_replica}
use Rattle.file_view.specs.Served.{Served, log_contents, has_committed_frames, waits}

-- the log's bytes after a write
abbrev pub log_after : Served → ℕ → List ℕ → List ℕ
log_after s at bytes = written at bytes (log_contents s)

-- whether the first 32 bytes are others, the header
abbrev pub changes_header : List ℕ → List ℕ → Bool
changes_header old new = not (bytes_eq (take 32 new) (take 32 old))

-- whether a write touches the header and leaves no valid one, or leaves one of another page size; size 0 stands for any
abbrev pub breaks_header : ℕ → ℕ → List ℕ → List ℕ → Bool
breaks_header page_size at bytes new =
    (nat_lt at 32 && (nat_lt 0 (length bytes) && not (is_header new)))
    || (not (page_size == 0) && (is_header new && not (page_size_in new == page_size)))

-- whether a byte of a committed frame is another, under the same header
abbrev pub changes_committed : List ℕ → List ℕ → Bool
changes_committed old new = not (changes_header old new) && not (bytes_eq (take (committed_end old) new) (take (committed_end old) old))

-- whether there are frames that only the later bytes commit, and whether these make a database past the limit
abbrev pub commits_frames : List ℕ → List ℕ → Bool
commits_frames old new = nat_lt (first_new old new) (committed_count new)

abbrev pub commits_too_many : List ℕ → List ℕ → Bool
commits_too_many old new = commits_frames old new && is_past_limit (page_size_in new) (last_size new)

-- what is left to refuse of a write that the log takes
abbrev pub log_commit_rows : Served → ℕ → List ℕ → List Row
log_commit_rows s at bytes = (commits_too_many (log_contents s) (log_after s at bytes), EFBIG) ∷ (waits s, EAGAIN) ∷ []

-- WRITE
abbrev pub log_write_rows : Served → Scene → Option ℕ → ℕ → List ℕ → List Row
log_write_rows s scene given at bytes =
    (scene.is_broken, EIO)
    ∷ (is_replica scene.role, EROFS)
    ∷ (is_active s.journal.file || is_some s.writer, EACCES)
    ∷ (not (writes s.locks scene.session given lock.Write), EACCES)
    ∷ (nat_lt 268435456 (at + length bytes), ENOSPC)
    ∷ (breaks_header (wanted_size scene.page_size scene.commit) at bytes (log_after s at bytes), EINVAL)
    ∷ (changes_committed (log_contents s) (log_after s at bytes), EPERM)
    ∷ (changes_header (log_contents s) (log_after s at bytes) && not (is_clean s.database), EPERM)
    ∷ log_commit_rows s at bytes

-- a log with committed frames has the committed image's page size, and its last commit that image's number of pages
pub record FollowsImage (contents : List ℕ) (page_size commit : ℕ) : Type 0 where
  pub page_size_is : 0 < committed_count contents → page_size_in contents ≡ page_size
  pub commit_is : 0 < committed_count contents → last_size contents ≡ commit

-- whether a change is made of an image: where it alters that
abbrev pub IsMade : DatabaseImage → PageChange → Option PageChange → Type 0
IsMade image change None = SameImage (apply image change) image
IsMade image change (Some _) = SameImage (apply image change) image → ⊥

-- what a step of the log commits over an image of a number of pages: nothing where no frames are committed, else their change,
-- where it alters the image
pub record LogCommits (told : Option DatabaseImage) (file : DatabaseFile) (old new : List ℕ) (commit : ℕ) (change : Option PageChange) : Type 0 where
  pub nothing : commits_frames old new ≡ false → change ≡ None
  pub made : commits_frames old new ≡ true → IfSome told (λ i. IsMade i (log_change file old new commit) change)
  pub is : IfSome change (λ c. c ≡ log_change file old new commit)

-- the log goes on following the image, and the database file agrees with it
pub record LogKeeps (told : Option DatabaseImage) (file : DatabaseFile) (old new : List ℕ) (page_size commit : ℕ) : Type 0 where
  pub follows : FollowsImage new page_size commit
  pub agrees : IfSome told (λ i. KeepsDifferences file i → Agrees file i old → Agrees file i new)

-- a write of bytes waits for its change, and leaves a file that fits the image with it
pub record IsHeldFor (told : Option DatabaseImage) (file : DatabaseFile) (old : List ℕ) (at : ℕ) (bytes : List ℕ) (change : PageChange) (w : HeldWrite) : Type 0 where
  pub at_is : w.at ≡ at
  pub bytes_are : w.bytes ≡ bytes
  pub fits : FitsShape w.file change.page_size change.commit
  pub leads : IfSome told (λ i. KeepsDifferences file i → Agrees file i old → LeadsUnderLog file i (written at bytes old) change w.file)

-- the files after a write that is done; and while it waits, when all else is as before
abbrev pub log_written : Served → ℕ → List ℕ → Served
log_written s at bytes = record s { log = Some (log_after s at bytes) }

pub record LogWaits (told : Option DatabaseImage) (old : Served) (at : ℕ) (bytes : List ℕ) (change : PageChange) (new : Served) : Type 0 where
  pub write : HeldWrite
  pub state : new ≡ record old { held_write = Some write }
  pub is : IsHeldFor told old.database (log_contents old) at bytes change write

-- what a write does: it is done where it commits nothing; else it waits for its commit
abbrev pub LogDone : Option DatabaseImage → Served → Scene → ℕ → List ℕ → Option PageChange → Served → Type 0
LogDone told old scene at bytes None new =
    LogCommits told old.database (log_contents old) (log_after old at bytes) scene.commit None
    × (LogKeeps told old.database (log_contents old) (log_after old at bytes) scene.page_size scene.commit × (new ≡ log_written old at bytes))
LogDone told old scene at bytes (Some change) new =
    LogCommits told old.database (log_contents old) (log_after old at bytes) scene.commit (Some change) × LogWaits told old at bytes change new

-- an owner of the session may cut or remove the log by WRITE, CKPT or EXCLUSIVE
abbrev pub may_cut_log : LockList → ℕ → Bool
may_cut_log locks session = writes locks session None lock.Write || writes locks session None lock.Ckpt || writes locks session None lock.Shared

-- whether zeros up to a length, or a cut behind the committed frames, would leave more committed frames
abbrev pub commits_by_cut : List ℕ → ℕ → Bool
commits_by_cut contents len = nat_le (committed_end contents) len && nat_lt (committed_count contents) (committed_count (resized len contents))

-- SETATTR of a size
abbrev pub log_cut_rows : Served → Scene → ℕ → List Row
log_cut_rows s scene len =
    (scene.is_broken, EIO)
    ∷ (nat_lt 268435456 len, ENOSPC)
    ∷ (commits_by_cut (log_contents s) len, EPERM)
    -- where there are committed frames: all of them stay, or all go once the database file is the committed image
    ∷ (has_committed_frames s && is_replica scene.role, EROFS)
    ∷ (has_committed_frames s && not (len == 0) && nat_lt len (committed_end (log_contents s)), EPERM)
    ∷ (has_committed_frames s && (len == 0) && not (is_clean s.database), EPERM)
    ∷ (has_committed_frames s && not (may_cut_log s.locks scene.session), EACCES)
    ∷ (waits s, EAGAIN)
    ∷ []

-- UNLINK
abbrev pub log_unlink_rows : Served → Scene → List Row
log_unlink_rows s scene =
    (scene.is_broken, EIO)
    ∷ (has_committed_frames s && is_replica scene.role, EROFS)
    ∷ (has_committed_frames s && not (is_clean s.database), EPERM)
    ∷ (has_committed_frames s && not (may_cut_log s.locks scene.session), EACCES)
    ∷ (waits s, EAGAIN)
    ∷ []

-- what they do
abbrev pub log_cut : Served → ℕ → Served
log_cut s len = record s { log = Some (resized len (log_contents s)) }

abbrev pub log_removed : Served → Served
log_removed s = record s { log = None }
