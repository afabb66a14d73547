-- The database that a file and its write-ahead log make together (SQLite, Write-Ahead Logging, section 2.2: a reader
-- takes a page from its latest committed frame, else from the database file).
use Rattle.std.specs.Prelude.{◌≡◌, ℕ, ◌+◌, ◌/◌, ◌==◌, ◌<◌, ◌≤◌, true, List, length, map, replicate, unwrap_or, if◌then◌else◌}
use Rattle.std.specs.List.{range_with_len}
use Rattle.lf_sqlite_pages.specs.LockPage.{lock_page_of}
use Rattle.lf_sqlite_pages.specs.Image.{DatabaseImage, SameImage}
use Rattle.wal_watch.specs.Frames.{page_size_in, committed_count}
use Rattle.wal_watch.specs.News.{last_size, latest_page, HoldsFrame}
use Rattle.database_file.specs.DatabaseFile.{DatabaseFile, as_read, is_clean}
use Rattle.database_file.specs.Writing.{page_or_zeros, page_in}

-- page n under the log: its latest committed frame, else the file's page, else zeros; the lock page is zeros
abbrev pub page_over : DatabaseImage → List ℕ → ℕ → List ℕ
page_over file contents n =
    if n == lock_page_of (page_size_in contents) then replicate (page_size_in contents) 0
    else unwrap_or (latest_page contents n) (page_or_zeros file (page_size_in contents) n)

-- the file under the log, at the size of the last commit; without committed frames the file as it is
abbrev pub over : DatabaseImage → List ℕ → DatabaseImage
over file contents =
    if committed_count contents == 0 then file
    else record { page_size = page_size_in contents; pages = map (page_over file contents) (range_with_len 1 (last_size contents)) }

-- the file, as it reads over the committed image, and under the log, is the committed image
abbrev pub Agrees : DatabaseFile → DatabaseImage → List ℕ → Type 0
Agrees file image contents = SameImage (over (as_read file image) contents) image

-- what that says of page size and number of pages alone: a log with committed frames has those of the image, and without
-- any the file keeps nothing
pub record FollowsLog (file : DatabaseFile) (page_size commit : ℕ) (contents : List ℕ) : Type 0 where
  pub page_size_is : 0 < committed_count contents → page_size_in contents ≡ page_size
  pub commit_is : 0 < committed_count contents → last_size contents ≡ commit
  pub clean : committed_count contents ≡ 0 → is_clean file ≡ true

-- bytes that are whole pages from a page on, each in a committed frame of that page
pub record AreFrames (contents : List ℕ) (first : ℕ) (bytes : List ℕ) : Type 0 where
  pub some : 1 ≤ length bytes / page_size_in contents
  pub frames : (k : ℕ) → k < length bytes / page_size_in contents → HoldsFrame contents (first + k) (page_in bytes (page_size_in contents) k)
