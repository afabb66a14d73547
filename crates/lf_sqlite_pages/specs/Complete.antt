-- A change made complete: over a database of a count of pages it then writes each data page past that count.
use Rattle.std.specs.Prelude.{ℕ, ◌==◌, Option, Some, None, List, length, nat_le, replicate, unwrap_or, if◌then◌else◌}
use Rattle.lf_sqlite_pages.specs.LockPage.{lock_page_of}
use Rattle.lf_sqlite_pages.specs.Image.{DatabaseImage}
use Rattle.lf_sqlite_pages.specs.Change.{PageChange, written}
use Rattle.lf_sqlite_pages.specs.Writes.{writes_of}

-- page n of the complete change: nothing at the lock page; within the old size what the change writes; past it also zeros
-- where the change writes nothing
abbrev pub completed_page : PageChange → ℕ → ℕ → Option (List ℕ)
completed_page change count n =
    if n == lock_page_of change.page_size then None
    else if nat_le n count then written change.pages n
    else Some (unwrap_or (written change.pages n) (replicate change.page_size 0))

-- the complete change over a count of pages, and over an image
abbrev pub completed : PageChange → ℕ → PageChange
completed change count = record change { pages = writes_of (completed_page change count) change.commit }

abbrev pub complete : DatabaseImage → PageChange → PageChange
complete image change = completed change (length image.pages)
