-- The change that a commit in the log makes of the committed image.
use Rattle.std.specs.Prelude.{ℕ, nat_le, Option, List, if◌then◌else◌}
use Rattle.lf_sqlite_pages.specs.Change.{PageChange}
use Rattle.lf_sqlite_pages.specs.Writes.{writes_of}
use Rattle.wal_watch.specs.Frames.{page_size_in, committed_count}
use Rattle.wal_watch.specs.News.{last_size, changed_page, first_new}
use Rattle.database_file.specs.DatabaseFile.{DatabaseFile}
use Rattle.database_file.specs.WalCommit.{change_over}

-- what the log writes at page n of an image of a count of pages, where the frames from first on are new: within the image
-- the latest new frame, past it the latest frame of all
abbrev pub newest_page : List ℕ → ℕ → ℕ → ℕ → Option (List ℕ)
newest_page contents first commit n = changed_page contents (if nat_le n commit then first else 0) (committed_count contents) n

abbrev pub log_news : List ℕ → ℕ → ℕ → PageChange
log_news contents first commit = record {
  page_size = page_size_in contents;
  commit = last_size contents;
  pages = writes_of (newest_page contents first commit) (last_size contents);
}

-- the change that the step from one contents to another commits over an image of a count of pages: what the log writes, and
-- past the image's end each other data page as the file has it, else zeros
abbrev pub log_change : DatabaseFile → List ℕ → List ℕ → ℕ → PageChange
log_change file old new commit = change_over file (log_news new (first_new old new) commit) commit
