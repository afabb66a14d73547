-- The steps in which the code applies a change. No public clause cites them.
use Rattle.std.specs.Prelude.{ℕ, ◌-◌, ◌++◌, ◌==◌, nat_le, is_some, Option, Some, None, List, [], length, take, replicate, fold, slice_set, if◌then◌else◌}
use Rattle.lf_sqlite_pages.specs.LockPage.{lock_page_of}
use Rattle.lf_sqlite_pages.specs.Change.{PageChange, written}
use Rattle.lf_sqlite_pages.specs.declared.page_write.PageWrite.{PageWrite}

-- the pages of an image that a change of a page size can keep: all of that size, else none
abbrev pub kept : ℕ → List (List ℕ) → ℕ → List (List ℕ)
kept old_size pages size = if old_size == size then pages else []

-- pages cut to a count, or grown to it with zeros
abbrev pub resized : List (List ℕ) → ℕ → ℕ → List (List ℕ)
resized pages size count = take count pages ++ replicate (count - length pages) (replicate size 0)

-- pages with those of a change written over them, one after another
abbrev pub overwritten : List (List ℕ) → List PageWrite → List (List ℕ)
overwritten pages writes = fold (λ ps w. slice_set ps (w.number - 1) w.bytes) pages writes

-- pages with pages of zeros behind them, so that there are at least a count
abbrev pub filled : List (List ℕ) → ℕ → ℕ → List (List ℕ)
filled pages size count = pages ++ replicate (count - length pages) (replicate size 0)

-- pages with one more in its place, and with zeros in each place before it that was empty
abbrev pub placed : List (List ℕ) → ℕ → PageWrite → List (List ℕ)
placed pages size w = slice_set (filled pages size w.number) (w.number - 1) w.bytes

-- what making a change complete adds at page n: zeros, where it is a data page past a count that the change lacks
abbrev pub missing_page : PageChange → ℕ → ℕ → Option (List ℕ)
missing_page change count n =
    if n == lock_page_of change.page_size then None
    else if nat_le n count then None
    else if is_some (written change.pages n) then None
    else Some (replicate change.page_size 0)
