-- A transaction file that is staged as its pages come, over a database of which the page sums are known.
use Rattle.std.specs.Prelude.{◌≡◌, ℕ, ◌-◌, ◌<◌, ◌≤◌, ◌==◌, Option, Some, List, unwrap_or, slice_index, if◌then◌else◌}
use Rattle.std.specs.Option.{option_map}
use Rattle.page_checksum.specs.Sums.{page_sum_of}
use Rattle.lf_sqlite_pages.specs.LockPage.{lock_page_of}
use Rattle.lf_sqlite_pages.specs.Change.{empty_change}
use Rattle.lf_sqlite_pages.specs.Complete.{completed_page}
use Rattle.lf_sqlite_pages.specs.Writes.{writes_of}
use Rattle.ltx_codec.specs.steps.ChangedSum.{joined_over}
use Rattle.txn_log.specs.declared.receiving.Receiving.{Receiving}
use Rattle.txn_log.specs.Staging.{IsStaging}

-- what the whole file holds at page n where the file that comes holds nothing there: zeros past the old size
abbrev pub lacking_page : ℕ → ℕ → ℕ → Option (List ℕ)
lacking_page size count n = completed_page (empty_change size 0) count n

-- the sum of page n afterwards: 0 for the lock page, else that of what is written there, else the one before
abbrev pub sum_with : ℕ → List ℕ → (ℕ → Option (List ℕ)) → ℕ → ℕ
sum_with size sums page n = if n == lock_page_of size then 0 else unwrap_or (option_map (page_sum_of n) (page n)) (slice_index sums (n - 1))

-- up to the page that was passed last these pages were staged, and their sums and those of the pages that stay taken together
pub record HasPassed (receiving : Receiving) (sums : List ℕ) (page : ℕ → Option (List ℕ)) : Type 0 where
  pub staging : IsStaging receiving.staging receiving.header (writes_of page receiving.passed)
  pub total : receiving.total ≡ joined_over (sum_with receiving.header.page_size sums page) 1 receiving.passed

-- behind the page that was passed last and up to this one the file that comes holds nothing
abbrev pub Lacks : Receiving → ℕ → (ℕ → Option (List ℕ)) → ℕ → Type 0
Lacks receiving count page last = (n : ℕ) → receiving.passed < n → n ≤ last → page n ≡ lacking_page receiving.header.page_size count n

-- the page of this number comes next, and is this: before it the file lacks what it does not hold
pub record ComesNext (receiving : Receiving) (sums : List ℕ) (count : ℕ) (held : ℕ → Option (List ℕ)) (number : ℕ) (page : List ℕ) : Type 0 where
  pub passed : HasPassed receiving sums held
  pub lacks : Lacks receiving count held (number - 1)
  pub here : held number ≡ Some page
