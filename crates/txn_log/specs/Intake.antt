-- A transaction file that is staged as its pages come, by the change that these pages make.
use Rattle.std.specs.Prelude.{◌≡◌, ℕ, List}
use Rattle.lf_disk.specs.Folder.{Folder}
use Rattle.lf_disk.specs.History.{History}
use Rattle.lf_sqlite_pages.specs.Change.{PageChange, last_number}
use Rattle.lf_sqlite_pages.specs.Complete.{completed_page}
use Rattle.lf_sqlite_pages.specs.Writes.{writes_of}
use Rattle.txn_log.specs.declared.receiving.Receiving.{Receiving}
use Rattle.txn_log.specs.Receiving.{HasPassed}
use Rattle.txn_log.specs.Staging.{HoldsSoFar, front_encoding}

-- the pages of this change were received, and passed to the last of them, over a database of a count of pages with these sums
pub record HasUpTo (receiving : Receiving) (sums : List ℕ) (count : ℕ) (change : PageChange) : Type 0 where
  pub passed : HasPassed receiving sums (completed_page change count)
  pub last : last_number change.pages ≡ receiving.passed
  pub size : receiving.header.page_size ≡ change.page_size

-- the staged file holds them and what is lacking between them, and all other files are as before
abbrev pub HoldsUpTo : Folder → Receiving → PageChange → ℕ → History → Type 0
HoldsUpTo before receiving change count h = HoldsSoFar before (front_encoding receiving.header (writes_of (completed_page change count) receiving.passed)) h
