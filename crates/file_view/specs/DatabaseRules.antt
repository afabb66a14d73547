-- WRITE and SETATTR of a size of the database file.
use Rattle.std.specs.Prelude.{◌≡◌, ℕ, ◌+◌, ◌-◌, ◌/◌, ◌%◌, ◌==◌, Bool, true, false, ◌&&◌, ◌||◌, not, nat_lt, nat_le, min, if◌then◌else◌}
use Rattle.std.specs.Prelude.{Option, Some, None, is_some, IfSome, List, [], ◌∷◌, length, unwrap_or}
use Rattle.std.specs.List.{list_any, list_all, range_with_len}
use Rattle.std.specs.Option.{option_map, option_or}
use Rattle.std.specs.Str.{bytes_eq}
use Rattle.std.specs.FinMap as pages
use Rattle.byte_locks.specs.declared.owner.Owner.{Owner}
use Rattle.byte_locks.specs.declared.lock_id.LockId.TheVariants as lock
use Rattle.byte_locks.specs.LockList.{writer_of}
use Rattle.database_file.specs.DatabaseFile.{DatabaseFile, FitsShape, KeepsDifferences, as_read, count_over, is_clean}
use Rattle.database_file.specs.Writing.{with_pages, sized}
use Rattle.database_file.specs.Writing.{page_in as page_of_bytes}
use Rattle.journal_watch.specs.Journal.{is_active}
use Rattle.lf_sqlite_pages.specs.Header.{page_size_of}
use Rattle.lf_sqlite_pages.specs.Image.{DatabaseImage}
use Rattle.lf_sqlite_pages.specs.LockPage.{lock_page_of}
use Rattle.wal_watch.specs.Frames.{committed_count, number_in, size_in, page_in}
use Rattle.wal_watch.specs.News.{last_size}
use Rattle.file_view.specs.declared.view.Scene.{Scene}
use Rattle.file_view.specs.Acting.{writes}
use Rattle.file_view.specs.Errno.{EPERM, EIO, EAGAIN, EACCES, EINVAL, EFBIG, ENOSPC, EROFS}
use Rattle.file_view.specs.JournalState.{journal_page_size}
use Rattle.file_view.specs.Refusal.{Row}
use Rattle.file_view.specs.Roles.{is_replica}
use Rattle.file_view.specs.Served.{Served, log_contents, has_committed_frames, waits}

-- the page size of a write: that of the committed image where it has pages, else of the file where it has pages, else that of an
-- active journal, else the one that the bytes of a first page state
abbrev pub write_size : Served → Scene → ℕ → List ℕ → Option ℕ
write_size s scene place bytes =
    if not (scene.commit == 0) then Some scene.page_size
    else if not (count_over s.database 0 == 0) then Some s.database.page_size
    else option_or (journal_page_size s.journal.file) (if place == 0 then page_size_of bytes else None)

-- the first page of a write, and how many pages it has
abbrev pub first_page : ℕ → ℕ → ℕ
first_page size place = place / size + 1

abbrev pub page_count : ℕ → List ℕ → ℕ
page_count size bytes = length bytes / size

-- whether a write is of whole pages at a whole page, none of them the lock page
abbrev pub are_pages : ℕ → ℕ → ℕ → Bool
are_pages size place len =
    nat_le 1 (len / size) && ((place % size == 0) && ((len % size == 0)
    && (nat_lt (lock_page_of size) (place / size + 1) || nat_lt (place / size + len / size) (lock_page_of size))))

-- the most pages of a database: an LTX file of all of them has at most 2,147,483,648 bytes, 4 beside each page and 120 beside all
abbrev pub most_pages : ℕ → ℕ
most_pages size = 2147483528 / (size + 4)

-- how many pages may be kept once some more were written behind the first ones, so many: those that are kept, zeros for those of
-- the image that come back into the file, and the written ones
abbrev pub kept_at_most : DatabaseFile → ℕ → ℕ → ℕ → ℕ
kept_at_most file commit before more = pages.len file.kept + (min before commit - count_over file commit) + more

-- whether so many pages are more than 268,435,456 bytes
abbrev pub is_past_uncommitted : ℕ → ℕ → Bool
is_past_uncommitted size count = nat_lt (268435456 / size) count

-- whether a write of page 1 states another page size
abbrev pub states_other : ℕ → ℕ → List ℕ → Bool
states_other size place bytes = (place == 0) && unwrap_or (option_map (λ stated. not (stated == size)) (page_size_of bytes)) false

-- whether a committed frame holds this page with these bytes; and each page of some bytes
abbrev pub holds_frame : List ℕ → ℕ → List ℕ → Bool
holds_frame contents page bytes = list_any (λ k. (number_in contents k == page) && bytes_eq (page_in contents k) bytes) (range_with_len 0 (committed_count contents))

abbrev pub hold_frames : List ℕ → ℕ → ℕ → List ℕ → Bool
hold_frames contents size first bytes = list_all (λ k. holds_frame contents (first + k) (page_of_bytes bytes size k)) (range_with_len 0 (page_count size bytes))

-- whether a committed frame states this size of the database
abbrev pub states_size : List ℕ → ℕ → Bool
states_size contents count = list_any (λ k. size_in contents k == count) (range_with_len 0 (committed_count contents))

-- whether the committed frames state this size: the last commit's, or that of an older one, which a commit has overtaken
abbrev pub is_log_size : List ℕ → ℕ → Bool
is_log_size contents count = nat_lt 0 (committed_count contents) && ((count == last_size contents) || (not (count == 0) && states_size contents count))

-- whether the acting owner may checkpoint: it holds CKPT or EXCLUSIVE
abbrev pub may_checkpoint : Served → Scene → Option ℕ → Bool
may_checkpoint s scene given = writes s.locks scene.session given lock.Shared || writes s.locks scene.session given lock.Ckpt

-- while a journal is active: uncommitted pages of the owner of EXCLUSIVE
abbrev pub uncommitted_rows : Served → Scene → Option ℕ → ℕ → ℕ → Bool → List Row
uncommitted_rows s scene given size count other =
    (has_committed_frames s && not (is_clean s.database), EPERM)
    ∷ (not (writes s.locks scene.session given lock.Shared), EACCES)
    ∷ (is_some s.torn, EIO)
    ∷ (is_past_uncommitted size count, ENOSPC)
    ∷ (other, EPERM)
    ∷ (waits s, EAGAIN)
    ∷ []

-- without one: a checkpoint, of pages that committed frames hold
abbrev pub checkpoint_rows : Served → Scene → Option ℕ → ℕ → ℕ → List ℕ → List Row
checkpoint_rows s scene given size place bytes =
    (not (may_checkpoint s scene given), EACCES)
    ∷ (not (hold_frames (log_contents s) size (first_page size place) bytes), EPERM)
    ∷ (waits s, EAGAIN)
    ∷ []

-- a write of a page size
abbrev pub sized_write_rows : Served → Scene → Option ℕ → ℕ → List ℕ → Option ℕ → List Row
sized_write_rows s scene given place bytes None = (true, EINVAL) ∷ []
sized_write_rows s scene given place bytes (Some size) =
    (not (are_pages size place (length bytes)), EINVAL)
    ∷ (nat_lt (most_pages size) (place / size + page_count size bytes), EFBIG)
    ∷ (if is_active s.journal.file
    then uncommitted_rows s scene given size (kept_at_most s.database scene.commit (place / size) (page_count size bytes)) (states_other size place bytes)
    else checkpoint_rows s scene given size place bytes)

-- WRITE
abbrev pub database_write_rows : Served → Scene → Option ℕ → ℕ → List ℕ → List Row
database_write_rows s scene given place bytes =
    (scene.is_broken, EIO)
    ∷ (is_replica scene.role, EROFS)
    ∷ sized_write_rows s scene given place bytes (write_size s scene place bytes)

-- a resize by a checkpoint: to the last commit's size, or to that of an older one, which a commit has overtaken
abbrev pub checkpoint_resize_rows : Served → Scene → Option ℕ → ℕ → List Row
checkpoint_resize_rows s scene given count =
    (not (may_checkpoint s scene given), EACCES)
    ∷ (not (is_log_size (log_contents s) count), EPERM)
    ∷ (waits s, EAGAIN)
    ∷ []

-- a resize to so many pages of a size
abbrev pub resize_rows : Served → Scene → Option ℕ → ℕ → ℕ → List Row
resize_rows s scene given size count =
    if count == count_over s.database scene.commit then (waits s, EAGAIN) ∷ []
    else if is_active s.journal.file
    then uncommitted_rows s scene given size (kept_at_most s.database scene.commit count 0) false
    else checkpoint_resize_rows s scene given count

abbrev pub sized_resize_rows : Served → Scene → Option ℕ → ℕ → Option ℕ → List Row
sized_resize_rows s scene given len None = (not (len == 0), EINVAL) ∷ (waits s, EAGAIN) ∷ []
sized_resize_rows s scene given len (Some size) =
    (not (len % size == 0), EINVAL)
    ∷ (nat_lt (most_pages size) (len / size), EFBIG)
    ∷ resize_rows s scene given size (len / size)

-- SETATTR of a size
abbrev pub database_size_rows : Served → Scene → Option ℕ → ℕ → List Row
database_size_rows s scene given len =
    (scene.is_broken, EIO)
    ∷ (is_replica scene.role, EROFS)
    ∷ sized_resize_rows s scene given len (write_size s scene 0 [])

-- who has uncommitted pages after a change of the database file: while a journal is active the owner of EXCLUSIVE
abbrev pub writer_after : Served → Option Owner
writer_after s = if is_active s.journal.file then writer_of s.locks lock.Shared else s.writer

-- the database file is another, which fits the image's shape and goes on to differ from the image; all else is as before but for
-- who has uncommitted pages
pub record IsDatabaseChanged (told : Option DatabaseImage) (old : Served) (scene : Scene) (new : Served) : Type 0 where
  pub fits : FitsShape new.database scene.page_size scene.commit
  pub differs : IfSome told (λ i. KeepsDifferences old.database i → KeepsDifferences new.database i)
  pub rest : new ≡ record old { database = new.database; writer = writer_after old }

-- what a WRITE does: the file reads as before with these pages
pub record IsDatabaseWritten (told : Option DatabaseImage) (old : Served) (scene : Scene) (size place : ℕ) (bytes : List ℕ) (new : Served) : Type 0 where
  pub pages : IfSome told (λ i. as_read new.database i ≡ with_pages (as_read old.database i) size (first_page size place) bytes)
  pub all : IsDatabaseChanged told old scene new

-- what a SETATTR of a size does: the file reads as before, cut or grown with zeros
pub record IsDatabaseSized (told : Option DatabaseImage) (old : Served) (scene : Scene) (size count : ℕ) (new : Served) : Type 0 where
  pub pages : IfSome told (λ i. as_read new.database i ≡ sized (as_read old.database i) size count)
  pub all : IsDatabaseChanged told old scene new

-- whether a resize changes anything: not to the size that the file has, nor by a checkpoint that a commit has overtaken
abbrev pub resizes : Served → Scene → ℕ → Bool
resizes s scene count =
    not (count == count_over s.database scene.commit) && (is_active s.journal.file || (count == last_size (log_contents s)))

pub record DatabaseSized (told : Option DatabaseImage) (old : Served) (scene : Scene) (size count : ℕ) (new : Served) : Type 0 where
  pub resized : resizes old scene count ≡ true → IsDatabaseSized told old scene size count new
  pub same : resizes old scene count ≡ false → new ≡ old
