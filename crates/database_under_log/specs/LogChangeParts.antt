-- The steps in which the code makes the change of a commit in the log. No public clause cites them.
use Rattle.std.specs.Prelude.{ℕ, nat_le, Option, List, if◌then◌else◌}
use Rattle.lf_sqlite_pages.specs.Change.{PageChange, written}
use Rattle.lf_sqlite_pages.specs.Writes.{writes_of}
use Rattle.lf_sqlite_pages.specs.declared.page_write.PageWrite.{PageWrite}
use Rattle.wal_watch.specs.Frames.{page_size_in, committed_count}
use Rattle.wal_watch.specs.News.{last_size, changed_page}

-- page n of some writes up to a count of pages, and of the log past it
abbrev pub joined_page : List PageWrite → List ℕ → ℕ → ℕ → Option (List ℕ)
joined_page writes contents count n = if nat_le n count then written writes n else changed_page contents 0 (committed_count contents) n

abbrev pub joined : List PageWrite → List ℕ → ℕ → PageChange
joined writes contents count = record {
  page_size = page_size_in contents;
  commit = last_size contents;
  pages = writes_of (joined_page writes contents count) (last_size contents);
}
