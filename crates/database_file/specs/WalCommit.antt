-- The change of a commit in the write-ahead log, once it says each page past the image's end.
use Rattle.std.specs.Prelude.{ℕ, ◌==◌, nat_le, length, map, Option, Some, None, List, replicate, unwrap_or, if◌then◌else◌}
use Rattle.std.specs.List.{range_with_len}
use Rattle.std.specs.FinMap as pages
use Rattle.lf_sqlite_pages.specs.LockPage.{lock_page_of}
use Rattle.lf_sqlite_pages.specs.Image.{DatabaseImage}
use Rattle.lf_sqlite_pages.specs.Change.{PageChange, written}
use Rattle.lf_sqlite_pages.specs.Writes.{writes_of}
use Rattle.database_file.specs.DatabaseFile.{DatabaseFile, as_read}
use Rattle.database_file.specs.Writing.{page_or_zeros}

-- page n of it over an image of a count of pages: nothing at the lock page; within the image what the log writes; past it
-- what the log writes, else what the file has there, else zeros
abbrev pub change_page : DatabaseFile → PageChange → ℕ → ℕ → Option (List ℕ)
change_page file change commit n =
    if n == lock_page_of change.page_size then None
    else if nat_le n commit then written change.pages n
    else Some (unwrap_or (written change.pages n) (unwrap_or (pages.get file.kept n) (replicate change.page_size 0)))

-- the change that the log's pages make over an image of a count of pages
abbrev pub change_over : DatabaseFile → PageChange → ℕ → PageChange
change_over file change commit = record change { pages = writes_of (change_page file change commit) change.commit }

-- page n of the database under the log's pages: the log's, else within the image the image's, and past it the file's
abbrev pub page_under : DatabaseFile → DatabaseImage → PageChange → ℕ → List ℕ
page_under file image news n =
    if n == lock_page_of news.page_size then replicate news.page_size 0
    else unwrap_or (written news.pages n)
    (if nat_le n (length image.pages) then page_or_zeros image news.page_size n else page_or_zeros (as_read file image) news.page_size n)

-- the database under the log's pages, at the log's size
abbrev pub under_log : DatabaseFile → DatabaseImage → PageChange → DatabaseImage
under_log file image news =
    record { page_size = news.page_size; pages = map (page_under file image news) (range_with_len 1 news.commit) }
